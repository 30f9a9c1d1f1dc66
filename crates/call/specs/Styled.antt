-- What options ask of each line beside the indent.
use Rattle.rules.specs.declared.LineEnding.{LineEnding}
use Rattle.options.specs.declared.FormatOptions.{FormatOptions}
use Rattle.line.specs.declared.style.Style.{Style}

-- the style that options give, with the ending that the text's lines get
abbrev pub style_of : FormatOptions → LineEnding → Style
style_of o ending =
    record { width = o.print_width; ruler = o.ruler_tab; ending = ending; strengths = o.strengths }
