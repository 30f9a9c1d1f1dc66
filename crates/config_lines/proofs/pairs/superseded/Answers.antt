use Rattle.std.proofs.Common.{rules}
use Rattle.rules.specs.Basics.{codes, same}
use Rattle.config_rules.specs.Lines.{lower}
use Rattle.config_rules.specs.Values.{style_of, size_of, tab_of, max_of, ending_of, newline_of, superseded}
use Rattle.config_lines.proofs.PairLaws.{chosen}
use Rattle.config_lines.proofs.pairs.superseded.Goals as goal

pub returns : goal.returns
unfolding superseded
returns c =
    rw (
      chosen (same (lower c.args.k.now) (codes "indent_style")) _ (style_of (lower c.args.v.now)) c.args.r.style c.set.result c.set.ensures (λ e. search rules),
      chosen (same (lower c.args.k.now) (codes "indent_size")) _ (size_of (lower c.args.v.now)) c.args.r.size c.set-2.result c.set-2.ensures (λ e. search rules),
      chosen (same (lower c.args.k.now) (codes "tab_width")) _ (tab_of (lower c.args.v.now)) c.args.r.tab c.set-3.result c.set-3.ensures (λ e. search rules),
      chosen (same (lower c.args.k.now) (codes "max_line_length")) _ (max_of (lower c.args.v.now)) c.args.r.max c.set-4.result c.set-4.ensures (λ e. search rules),
      chosen (same (lower c.args.k.now) (codes "end_of_line")) _ (ending_of (lower c.args.v.now)) c.args.r.ending c.set-5.result c.set-5.ensures (λ e. search rules),
      chosen (same (lower c.args.k.now) (codes "insert_final_newline")) _ (newline_of (lower c.args.v.now)) c.args.r.newline c.set-6.result c.set-6.ensures (λ e. search rules),
    )
