-- The mark at the head of s in each mode, by the tests that the code makes.
use Prim.Native.Nat.{ℕ, ◌+◌, ◌-◌, ◌≤◌, ◌<◌}
use mathlib.Core.Bool.{Bool, true, false}
use mathlib.Core.Path.{◌≡◌}
use mathlib.Core.List.{List}
use borrow.Author.Tests.{le-leb, lt-leb}
use Rattle.rules.specs.declared.Class.{Class}
use Rattle.rules.specs.declared.Mode.{Mode}
use Rattle.rules.specs.Basics.{choose, at}
use Rattle.rules.specs.Scan.{long, one, at_quote, in_code, in_quoted, in_interp, in_inner, in_block, in_prefab}

module _ (s : List ℕ) where
  module _ (q : Bool) (d : ℕ) (k : Bool) where
    pub inner_escape : true ≡ at s "\\" → in_inner q d k s ≡ long 1 Class.Str (Mode.Inner q d k)
    unfolding in_inner choose
    inner_escape e = rw (← e)

    pub inner_end : false ≡ at s "\\" → true ≡ at_quote s k → in_inner q d k s ≡ one Class.Str (Mode.Interp q d)
    unfolding in_inner choose
    inner_end e f = rw (← e, ← f)

    pub inner_plain : false ≡ at s "\\" → false ≡ at_quote s k → in_inner q d k s ≡ one Class.Str (Mode.Inner q d k)
    unfolding in_inner choose
    inner_plain e f = rw (← e, ← f)

  module _ (q : Bool) (d : ℕ) where
    pub interp_escape : true ≡ at s "\\" → in_interp q d s ≡ long 1 Class.Str (Mode.Interp q d)
    unfolding in_interp choose
    interp_escape e = rw (← e)

    pub interp_double : false ≡ at s "\\" → true ≡ at s "\"" → in_interp q d s ≡ one Class.Str (Mode.Inner q d true)
    unfolding in_interp choose
    interp_double e f = rw (← e, ← f)

    pub interp_single : false ≡ at s "\\" → false ≡ at s "\"" → true ≡ at s "'" → in_interp q d s ≡ one Class.Str (Mode.Inner q d false)
    unfolding in_interp choose
    interp_single e f g = rw (← e, ← f, ← g)

    pub interp_open : false ≡ at s "\\" → false ≡ at s "\"" → false ≡ at s "'" → true ≡ at s "{" → in_interp q d s ≡ one Class.Str (Mode.Interp q (d + 1))
    unfolding in_interp choose
    interp_open e f g h = rw (← e, ← f, ← g, ← h)

    pub interp_end : false ≡ at s "\\" → false ≡ at s "\"" → false ≡ at s "'" → false ≡ at s "{" → true ≡ at s "}" → d ≤ 1 → in_interp q d s ≡ one Class.Str (Mode.Quoted q)
    unfolding in_interp choose
    interp_end e f g h i l = rw (← e, ← f, ← g, ← h, ← i, le-leb d 1 l)

    pub interp_close : false ≡ at s "\\" → false ≡ at s "\"" → false ≡ at s "'" → false ≡ at s "{" → true ≡ at s "}" → 1 < d → in_interp q d s ≡ one Class.Str (Mode.Interp q (d - 1))
    unfolding in_interp choose
    interp_close e f g h i l = rw (← e, ← f, ← g, ← h, ← i, lt-leb d 1 l)

    pub interp_plain : false ≡ at s "\\" → false ≡ at s "\"" → false ≡ at s "'" → false ≡ at s "{" → false ≡ at s "}" → in_interp q d s ≡ one Class.Str (Mode.Interp q d)
    unfolding in_interp choose
    interp_plain e f g h i = rw (← e, ← f, ← g, ← h, ← i)

  module _ (q : Bool) where
    pub quoted_escape : true ≡ at s "\\" → in_quoted q s ≡ long 1 Class.Str (Mode.Quoted q)
    unfolding in_quoted choose
    quoted_escape e = rw (← e)

    pub quoted_interp : false ≡ at s "\\" → true ≡ at s "${" → in_quoted q s ≡ long 1 Class.Str (Mode.Interp q 1)
    unfolding in_quoted choose
    quoted_interp e f = rw (← e, ← f)

    pub quoted_end : false ≡ at s "\\" → false ≡ at s "${" → true ≡ at_quote s q → in_quoted q s ≡ one Class.Str Mode.Code
    unfolding in_quoted choose
    quoted_end e f g = rw (← e, ← f, ← g)

    pub quoted_plain : false ≡ at s "\\" → false ≡ at s "${" → false ≡ at_quote s q → in_quoted q s ≡ one Class.Str (Mode.Quoted q)
    unfolding in_quoted choose
    quoted_plain e f g = rw (← e, ← f, ← g)

  module _ (d : ℕ) where
    pub block_open : true ≡ at s "/*" → in_block d s ≡ long 1 Class.BlockComment (Mode.Block (d + 1))
    unfolding in_block choose
    block_open e = rw (← e)

    pub block_end : false ≡ at s "/*" → true ≡ at s "*/" → d ≤ 1 → in_block d s ≡ long 1 Class.BlockComment Mode.Code
    unfolding in_block choose
    block_end e f l = rw (← e, ← f, le-leb d 1 l)

    pub block_close : false ≡ at s "/*" → true ≡ at s "*/" → 1 < d → in_block d s ≡ long 1 Class.BlockComment (Mode.Block (d - 1))
    unfolding in_block choose
    block_close e f l = rw (← e, ← f, lt-leb d 1 l)

    pub block_plain : false ≡ at s "/*" → false ≡ at s "*/" → in_block d s ≡ one Class.BlockComment (Mode.Block d)
    unfolding in_block choose
    block_plain e f = rw (← e, ← f)

  pub prefab_end : true ≡ at s "```" → in_prefab s ≡ long 2 Class.Prefab Mode.Code
  unfolding in_prefab choose
  prefab_end e = rw (← e)

  pub prefab_plain : false ≡ at s "```" → in_prefab s ≡ one Class.Prefab Mode.Prefab
  unfolding in_prefab choose
  prefab_plain e = rw (← e)

  pub code_escape : true ≡ at s "\\" → in_code s ≡ long 1 Class.Code Mode.Code
  unfolding in_code choose
  code_escape e = rw (← e)

  pub code_double : false ≡ at s "\\" → true ≡ at s "\"" → in_code s ≡ one Class.Str (Mode.Quoted true)
  unfolding in_code choose
  code_double e f = rw (← e, ← f)

  pub code_single : false ≡ at s "\\" → false ≡ at s "\"" → true ≡ at s "'" → in_code s ≡ one Class.Str (Mode.Quoted false)
  unfolding in_code choose
  code_single e f g = rw (← e, ← f, ← g)

  module _ (e : false ≡ at s "\\") (f : false ≡ at s "\"") (g : false ≡ at s "'") where
    pub code_line_law : true ≡ at s "//" → in_code s ≡ one Class.LineComment Mode.Line
    unfolding in_code choose
    code_line_law h = rw (← e, ← f, ← g, ← h)

    pub code_block : false ≡ at s "//" → true ≡ at s "/*" → in_code s ≡ long 1 Class.BlockComment (Mode.Block 1)
    unfolding in_code choose
    code_block h i = rw (← e, ← f, ← g, ← h, ← i)

    pub code_prefab : false ≡ at s "//" → false ≡ at s "/*" → true ≡ at s "$```" → in_code s ≡ long 3 Class.Prefab Mode.Prefab
    unfolding in_code choose
    code_prefab h i j = rw (← e, ← f, ← g, ← h, ← i, ← j)

    pub code_plain : false ≡ at s "//" → false ≡ at s "/*" → false ≡ at s "$```" → in_code s ≡ one Class.Code Mode.Code
    unfolding in_code choose
    code_plain h i j = rw (← e, ← f, ← g, ← h, ← i, ← j)
