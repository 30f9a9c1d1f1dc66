use Rattle.marks.proofs.mark_at.Goals as goal

pub in_interp-requires : goal.in_interp-requires
in_interp-requires c = rw c.in-Interp.is at c.requires

pub in_block-requires : goal.in_block-requires
in_block-requires c = rw c.in-Block.is at c.requires

pub returns-in-Code : goal.returns-in-Code
returns-in-Code c = rw c.in-Code.is c.in_code.ensures

pub returns-in-Quoted : goal.returns-in-Quoted
returns-in-Quoted c = rw c.in-Quoted.is c.in_quoted.ensures

pub returns-in-Interp : goal.returns-in-Interp
returns-in-Interp c = rw c.in-Interp.is c.in_interp.ensures

pub returns-in-Inner : goal.returns-in-Inner
returns-in-Inner c = rw c.in-Inner.is c.in_inner.ensures

pub returns-in-Line : goal.returns-in-Line
returns-in-Line c = rw c.in-Line.is c.one.ensures

pub returns-in-Block : goal.returns-in-Block
returns-in-Block c = rw c.in-Block.is c.in_block.ensures

pub returns-in-Prefab : goal.returns-in-Prefab
returns-in-Prefab c = rw c.in-Prefab.is c.in_prefab.ensures
