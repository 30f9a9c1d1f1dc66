use Rattle.std.proofs.Common.{rules}
use Rattle.std.specs.Prelude.{option_map}
use mathlib.Core.Path.{◌≡◌, ◌∙◌}
use Rattle.rules.specs.declared.IndentSize.{IndentSize}
use Rattle.config_lines.proofs.ValueLaws.{size_is}
use Rattle.config_lines.proofs.values.size_of.Goals as goal

pub returns : goal.returns
returns c =
    let e : c.map.result ≡ option_map IndentSize.Value c.whole_of.result = search rules in
    e ∙ size_is _ _ c.whole_of.ensures _ c.is_word.ensures c.if-is_word.false
