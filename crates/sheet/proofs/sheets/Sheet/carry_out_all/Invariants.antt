use Rattle.std.proofs.Common.{◌≡◌, drop}
use Rattle.sheet.specs.Lives.{lived}
use Rattle.sheet.specs.Requests.{life_of}
use Rattle.sheet.specs.Sheets.{book_of}
use Rattle.sheet.proofs.sheets.Sheet.carry_out_all.Given as goal

-- what is left to carry out gives the book after all of it
abbrev pub invariant-loop-request : goal.invariant-loop-request
invariant-loop-request g l =
    lived (book_of g.S.NeedStore.has g.S.NeedStore.places l.self) (life_of (drop l.request-index l.requests))
    ≡ lived (book_of g.S.NeedStore.has g.S.NeedStore.places l.initial.self) (life_of l.requests)
