use Rattle.std.proofs.Common.{sym, ◌∙◌}
use Rattle.sqlite.specs.Held.{state}
use Rattle.office_tables.proofs.OpenLemmas.{arranged_office}
use Rattle.office_tables.proofs.sql_shelf.SqlShelf.migrate.Goals as goal

pub spell_anew-requires : goal.spell_anew-requires
spell_anew-requires g c =
    let s = state g.S.Store c.args.conn.now in
    arranged_office s (sym c.is_autocommit.ensures.value ∙ c.if-not-is_autocommit.false) (sym c.schema.ensures.value ∙ c.is_office.ensures.is c.if-is_office.true)
    (λ h. c.is_autocommit.ensures.settled c.if-not-is_autocommit.false h.1) (λ h. (c.schema.ensures.live h.1).0) c.requires
