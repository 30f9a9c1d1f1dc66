use borrow.Author.Rules.{rules}
use native.Mathlib.Omega.{arith}
use mathlib.Core.Path.{ap}
use Rattle.std.proofs.Common.{◌+◌, ◌≤◌, length}
use lib.ListN.{length-drop}
use Rattle.buffer.proofs.RegionLaws.{part_from}
use Rattle.split_import.proofs.ImportLaws.{import_told, class_room, rest_room, no_import, no_brace, no_close, found_braces, given_import}
use Rattle.split_import.proofs.split_import.Goals as goal

pub returns-then-not-starts_with_keyword : goal.returns-then-not-starts_with_keyword
returns-then-not-starts_with_keyword c = let h = import_told _ _ c.starts_with_keyword.ensures in search (rules, no_import)

pub find_code-requires : goal.find_code-requires
find_code-requires c = class_room c.requires

pub returns-in_err-start : goal.returns-in_err-start
returns-in_err-start c =
    rw c.from_residual.ensures
    (no_brace c.requires _ (import_told _ _ c.starts_with_keyword.ensures) c.if-not-starts_with_keyword.false _ c.in_err-start.ensures _ _ _ _ (omega arith))

pub slice_bounds-find_code-count-2 : goal.slice_bounds-find_code-count-2
slice_bounds-find_code-count-2 c = omega (arith, class_room c.requires, c.in_ok-start.ensures.1)

pub slice_bounds-find_code-start-2 : goal.slice_bounds-find_code-start-2
slice_bounds-find_code-start-2 c =
    let h : c.in_ok-start.start + 1 ≤ length c.args.class.now = omega (arith, class_room c.requires, c.in_ok-start.ensures.1) in search rules

pub find_code-requires-2 : goal.find_code-requires-2
find_code-requires-2 c = rest_room c.requires _

pub returns-in_err-end : goal.returns-in_err-end
returns-in_err-end c =
    let s = c.in_ok-start.ensures in
    rw c.from_residual-in_err-end.ensures
    (no_close c.requires _ (import_told _ _ c.starts_with_keyword.ensures) c.if-not-starts_with_keyword.false _ s.0 s.1 _ c.in_err-end.ensures _ _ _ _
    (omega (arith, ap length (part_from c.args.line.now (c.in_ok-start.start + 1)), length-drop (c.in_ok-start.start + 1) c.args.line.now)))

pub write_import-requires : goal.write_import-requires
write_import-requires c =
    let s = c.in_ok-start.ensures in
    let e = c.in_ok-end.ensures in
    found_braces c.requires _ (import_told _ _ c.starts_with_keyword.ensures) c.if-not-starts_with_keyword.false _ s.0 s.1 _ e.0
    (omega (arith, e.1, ap length (part_from c.args.line.now (c.in_ok-start.start + 1)), length-drop (c.in_ok-start.start + 1) c.args.line.now))

pub returns : goal.returns
returns c =
    let s = c.in_ok-start.ensures in
    let e = c.in_ok-end.ensures in
    given_import c.requires _ (import_told _ _ c.starts_with_keyword.ensures) c.if-not-starts_with_keyword.false _ s.0 s.1 _ e.0
    (omega (arith, e.1, ap length (part_from c.args.line.now (c.in_ok-start.start + 1)), length-drop (c.in_ok-start.start + 1) c.args.line.now))
    _ _ _ _ _ _ c.write_import.ensures
