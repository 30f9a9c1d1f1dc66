use mathlib.Core.Path.{refl, ◌∙◌}
use Rattle.place.proofs.BreakLaws.{import_asks, operation_asks, import_breaks, several_breaks, alone_breaks}
use Rattle.place.proofs.break_line.Goals as goal

pub split_import-requires : goal.split_import-requires
split_import-requires c =
    import_asks _ _ _ _ _ _ _ _ _ _ _ _ c.args.indent.valid c.requires.level_le_max_source c.requires.goes_on refl c.continue_text-start.ensures c.requires.ordered.1

pub split_operation-requires : goal.split_operation-requires
split_operation-requires c =
    operation_asks _ _ _ _ _ _ _ _ _ _ _ _ c.args.indent.valid c.requires.level_le_max_source c.requires.goes_on refl c.continue_text-start.ensures c.requires.ordered.1 c.requires.line_value

pub trimmed_takes_else-joins-requires : goal.trimmed_takes_else-joins-requires
trimmed_takes_else-joins-requires c =
    record { well_formed = c.requires.goes_on.well; line_value = c.requires.goes_on.trimmed }

pub returns-in-Some : goal.returns-in-Some
returns-in-Some c =
    import_breaks _ _ _ _ _ _ _ _ _ _ _ _ c.args.indent.valid c.requires.level_le_max_source c.requires.goes_on refl c.continue_text-start.ensures _ _ _ _ c.ends_in_brace-brace.ensures _ _ c.split_import.ensures _ c.in-Some.is
    _ c.after_lines.ensures

pub shape_of-out-in-Broken : goal.shape_of-out-in-Broken
shape_of-out-in-Broken c =
    c.out-in-None-1.given ∙ c.out-2-1.given ∙ c.out-1.given

pub returns-in-Broken : goal.returns-in-Broken
returns-in-Broken c =
    several_breaks _ _ _ _ _ _ _ _ _ _ _ _ c.args.indent.valid c.requires.level_le_max_source c.requires.goes_on refl c.continue_text-start.ensures _ _ _ _ c.ends_in_brace-brace.ensures _ _ c.split_import.ensures
    c.in-None.is _ _ c.split_operation.ensures _ _ _
    c.in-Broken.is c.after_lines-in-Broken.ensures c.alone.ensures

pub shape_of-out-in-Whole : goal.shape_of-out-in-Whole
shape_of-out-in-Whole c =
    c.out-in-None-1.given ∙ c.out-2-1.given ∙ c.out-1.given

pub returns-in-Whole : goal.returns-in-Whole
returns-in-Whole c =
    alone_breaks _ _ _ _ _ _ _ _ _ _ _ _ c.args.indent.valid c.requires.level_le_max_source c.requires.goes_on refl c.continue_text-start.ensures _ _ _ _ c.ends_in_brace-brace.ensures _ _ c.split_import.ensures
    c.in-None.is _ _ c.split_operation.ensures _ _ _ _
    c.trimmed_takes_else-joins.ensures c.in-Whole.is c.after_lines-in-Whole.ensures c.alone-in-Whole.ensures
