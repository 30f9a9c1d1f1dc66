-- The tokens of a name that is held.
use Rattle.std.specs.Prelude.{List}
use Rattle.config_rules.specs.Name.{Token}
use Rattle.glob_pass.specs.Kinds.{held}
use Rattle.glob_pass.specs.declared.name.Name.{Name}

abbrev pub tokens_held : Name → List Token
tokens_held n = held n.kinds.now n.chars.now
