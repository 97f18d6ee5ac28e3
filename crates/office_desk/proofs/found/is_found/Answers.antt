use Rattle.std.proofs.Common.{ℕ, Option, Some, subst, sym, true, ◌∙◌}
use Rattle.std.proofs.lemmas.List.Elements.{All-contains}
use Rattle.office_desk.specs.Recording.{TellsIntersection}
use Rattle.office_desk.proofs.FoundAgain.{has_number, one_found}
use Rattle.office_desk.proofs.found.is_found.Goals as goal

pub returns-then-contains-clause-tells : goal.returns-then-contains-clause-tells
returns-then-contains-clause-tells g c = λ honest.
    let Tells = λ (about : Option ℕ). TellsIntersection (g.S.Shelf.content c.args.shelf.now) about true in
    subst Tells (sym c.in-Some.is) (All-contains (λ id. Tells (Some id)) c.args.found.now.keys c.in-Some.id (c.requires honest) (has_number c.args.found.now c.in-Some.id (sym c.contains.ensures ∙ c.if-contains.true)))

pub returns-in-Ok-clause-found : goal.returns-in-Ok-clause-found
returns-in-Ok-clause-found g c = λ honest.
    one_found _ c.args.found.now c.insert.new.self c.in-Some.id c.in-Ok.ensures.keys (c.requires (c.is_known.ensures.reads.kept.honest_before honest))
    (rw c.if-not-branch.false at (c.in_ok-is_known.ensures.tells honest))
