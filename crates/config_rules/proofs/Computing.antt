-- Opens every definition, so that examples compute: `unfolding configuring`.
use Rattle.rules.proofs.Computing.{computing}
use Rattle.config_rules.specs.Sets.{escapes, dashes, named_after, holds, is_low, names_at, names, in_set}
use Rattle.config_rules.specs.Numbers.{digit_count, sign, number_len, is_number, value, at_most, in_range}
use Rattle.config_rules.specs.Name.{escape_at, to_bracket, bracket_at, range_at, brace_at, star_at, slash_at, reading_at, tokens, with_comma, outer, closers, unopened, openers, settled_at, settled, tokens_of}
use Rattle.config_rules.specs.Globs.{one_then, run_then, some_then, ahead_then, item_then, closing, between, opening, place_at, place_of, rooted, is_slash, has_slash, suffix, anchored, matches}
use Rattle.config_rules.specs.Lines.{lower, has_eq, key, setting, is_comment, is_header, line_of, without_bom, lines_of}
use Rattle.config_rules.specs.Values.{is_whole, style_of, size_of, tab_of, max_of, ending_of, newline_of, superseded}
use Rattle.config_rules.specs.Sections.{root_at, settings, long_name}
use Rattle.config_rules.specs.Texts.{below_slashes, relatives, resolved}
use Rattle.config_rules.specs.Call.{any_of, read_editor_config}

unfoldable pub configuring : Unit {0}
unfolding computing escapes dashes named_after holds is_low names_at names in_set digit_count sign number_len is_number value at_most in_range escape_at to_bracket bracket_at range_at brace_at star_at slash_at reading_at tokens with_comma outer closers unopened openers settled_at settled tokens_of one_then run_then some_then ahead_then item_then closing between opening place_at place_of rooted is_slash has_slash suffix anchored matches lower has_eq key setting is_comment is_header line_of without_bom lines_of is_whole style_of size_of tab_of max_of ending_of newline_of superseded root_at settings long_name below_slashes relatives resolved any_of read_editor_config
configuring = tt
