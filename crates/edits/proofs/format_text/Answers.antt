use Rattle.edits.proofs.format_text.Goals as goal

pub returns : goal.returns
returns c = record { list = _; is = c.format.ensures }
