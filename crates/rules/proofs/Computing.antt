-- Opens every definition, so that examples compute: `unfolding computing`.
use Rattle.utf8.specs.Unicode.{is_scalar, encode_char, encode, tail, second, seq_len, code_of, chars, well_formed, units, width, is_white, trim_start, cons_trimmed, trim_end, trim}
use Rattle.buffer.specs.Repeat.{times}
use Rattle.rules.specs.Basics.{choose, is_ident, same, one_of, starts_with, first_is, last_is, leading, starts_then, keep, count, at_sep, split_on}
use Rattle.rules.specs.Options.{all_blank, valid_indent, indent_with, indent_of, column_after, measure, over_wide}
use Rattle.rules.specs.Lines.{as_str, drop_cr, lines_of, crlfs, dominant_in, ends_in_lf}
use Rattle.rules.specs.Scan.{in_code, in_quoted, in_interp, in_inner, in_block, in_prefab, chars_of, classes_of, scan, final, classify, carry_after, before, from, all_code_or_str}
use Rattle.rules.specs.ClassBytes.{cells_of}
use Rattle.rules.specs.Line.{scanned_part, closers_in, kept_stack, kept_line, block_after, protected_after, as_written, blank_line, else_line, drop_blank, lines_before, continues, level_of, or_operation, broken, may_split, split_wide, laid, placed_line, spaced_line, code_line, any_line, format_line}
use Rattle.rules.specs.Operators.{index_in, starts_one, starts_operator}
use Rattle.rules.specs.Strengths.{fields_of, strengths_in, last_bits}
use Rattle.rules.specs.Words.{starts_with_word, white_or_paren, starts_with_one_of, starts_with_binary_op, same_declaration, drop_slashes, is_marker_text, is_marker, has_code}
use Rattle.rules.specs.Spacing.{cons_blank, trim_blanks, put_plain, put_after_comma, put_at, normalize_spacing}
use Rattle.rules.specs.Else.{starts_if, white_or_brace, is_plain_else, joinable, can_join, join_else}
use Rattle.rules.specs.Brackets.{leading_closers, push, bracket_step, scan_brackets, levels, count_brackets, pop_from, open_lines}
use Rattle.rules.specs.SplitImport.{cons_name, names_of, blanks_of, add_name, fill_names, import_lines, import_parts, closed_import, opened_import, starts_import, split_import}
use Rattle.rules.specs.SplitOperation.{precedence, ends_operand, token, operator, escape, bracket, is_sign, one_char_step, two_char_step, code_step, fresh_step, op_step_at, marks_from, top_level_ops, deeper, shallower, balance_step, is_balanced, word_on, has_word_from, has_word, looser, loosest, at_mark, cut_before, trimmed, break_at, split_once, next_break, break_on, break_first, lay_pieces, split_operation}
use Rattle.rules.specs.Assembly.{ending_of, drop_empty, joined, last_ending, finish, format_lines, format_with}
use Rattle.rules.specs.Choices.{valid_options, options_of}
use Rattle.rules.specs.Call.{formatted, text_of, verdict_of, outcome_of, filled, output_of, listed, opened_of}
use Rattle.rules.specs.TextKind.{in_interpolation, class_kind, kinds, rust_lines, kind_in, text_kind_at, kind_outcome_of}
use Rattle.rules.specs.EditorConfig.{configured, with_editor_config}
use Rattle.rules.specs.Prefabs.{opens, stays, left_open, prefabs_from, prefabs_of, ended}
use Rattle.rules.specs.Quoted.{closing, quoted_at, quoted_in, quoted_from, quoted_of}

unfoldable pub computing : Unit {0}
unfolding is_scalar encode_char encode tail second seq_len code_of chars well_formed units width is_white trim_start cons_trimmed trim_end trim times choose is_ident same one_of starts_with first_is last_is leading starts_then keep count at_sep split_on all_blank valid_indent indent_with indent_of column_after measure over_wide as_str drop_cr lines_of crlfs dominant_in ends_in_lf in_code in_quoted in_interp in_inner in_block in_prefab chars_of classes_of scan final classify carry_after before from all_code_or_str cells_of as_written blank_line else_line drop_blank lines_before continues level_of or_operation broken laid placed_line spaced_line code_line any_line format_line starts_with_word white_or_paren starts_with_one_of starts_with_binary_op same_declaration drop_slashes is_marker_text is_marker has_code cons_blank trim_blanks put_plain put_after_comma put_at normalize_spacing starts_if white_or_brace is_plain_else joinable can_join join_else leading_closers push bracket_step scan_brackets levels count_brackets open_lines cons_name names_of blanks_of add_name fill_names import_lines import_parts closed_import opened_import starts_import split_import precedence ends_operand token operator escape bracket is_sign one_char_step two_char_step code_step fresh_step op_step_at marks_from top_level_ops deeper shallower balance_step is_balanced word_on has_word_from has_word looser loosest at_mark cut_before trimmed break_at split_once next_break break_on break_first lay_pieces split_operation ending_of drop_empty joined last_ending finish format_lines format_with valid_options options_of formatted text_of outcome_of filled output_of listed opened_of in_interpolation kinds rust_lines kind_in text_kind_at kind_outcome_of configured with_editor_config kept_line scanned_part closers_in kept_stack block_after protected_after may_split split_wide pop_from verdict_of class_kind fields_of strengths_in last_bits index_in starts_one starts_operator opens stays left_open prefabs_from prefabs_of ended closing quoted_at quoted_in quoted_from quoted_of
computing = tt
