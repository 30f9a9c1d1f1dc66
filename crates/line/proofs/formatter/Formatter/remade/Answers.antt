use mathlib.Core.Path.{ap}
use Rattle.rules.specs.declared.Ignore.{Ignore}
use Rattle.line.specs.Holds.{Record}
use Rattle.line.proofs.formatter.Formatter.remade.Goals as goal

pub returns : goal.returns
returns c =
    let st = c.args.self in
    ap {B = Record}
    (λ (i : Ignore). record {
      text = st.text;
      nesting = st.nesting;
      blank = st.blank;
      prev = st.prev;
      carry = st.carry;
      ignore = i;
      imports = st.imports;
      blanks = st.blanks;
    })
    c.same_ignore-same.ensures
