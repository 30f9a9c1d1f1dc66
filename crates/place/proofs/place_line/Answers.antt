use Rattle.place.proofs.LayLaws.{put_record, counts_fit}
use Rattle.place.proofs.place_line.Goals as goal

pub after_placed-requires : goal.after_placed-requires
after_placed-requires c =
    let t = counts_fit _ _ _ _ _ _ _ _ _ c.requires.asks c.join_or_lay-p.ensures in
    record { imports_bound = t.0; blanks_bound = t.1 }

pub returns : goal.returns
returns c = put_record _ _ _ _ _ _ _ _ _ _ c.after_placed.ensures c.join_or_lay-p.ensures
