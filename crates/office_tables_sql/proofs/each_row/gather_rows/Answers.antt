use Rattle.std.proofs.Common.{◌≡◌, ◌++◌, rules, refl, [], ◌∷◌, arith, ◌∙◌, Err}
use Rattle.sqlite.specs.{Given.GivesOn, Given.row_if, Held.state, State.HasCleanDisk, State.IsUnchanged, State.State}
use Rattle.sqlite.proofs.Callers.{given_begin, unchanged_then}
use Rattle.office_tables_shelf.proofs.ListLemmas.{all_more}
use Rattle.office_tables_shelf.specs.declared.shelf.ShelfFault.TheVariants.{Damaged}
use Rattle.office_tables_statements.specs.{Calls.IsHonest, Calls.Keeps, Stored.content_now, Tables.params_of, Tables.row_shown, Tables.stored_for}
use Rattle.office_tables_sql.specs.Kept.{Gathers, HasStoredDamage}
use Rattle.office_tables_statements.proofs.StoredLists.{lists, width, damaged_at}
use Rattle.office_tables_sql.proofs.each_row.gather_rows.{Given.Over, Goals.In_default}
use Rattle.office_tables_statements.proofs.CallLemmas.{survives_on, queried_survives, unqueried_keeps, starts, still_keeps, broken_keeps, all_read, some_read, has_mid, one_more}
use Rattle.office_tables_sql.proofs.each_row.gather_rows.Goals as goal

-- ---- once the query was asked for one more row

abbrev old : (g : Over) → In_default g → State
old g c = state g.S.Store c.args.conn.now

abbrev new : (g : Over) → In_default g → State
new g c = state g.S.Store c.advance.new.self.conn.now

unchanged : (g : Over) (c : In_default g) → HasCleanDisk (new g c) → IsUnchanged (old g c) (new g c)
unchanged g c clean =
    let step = c.in_default.ensures in
    unchanged_then _ _ _ (c.rows.invariant.1.same (omega (arith, clean, step.survives.clean))) (step.same clean)

keeps : (g : Over) (c : In_default g) → Keeps (old g c) (new g c) × (HasCleanDisk (new g c) → IsHonest (new g c))
keeps g c =
    let now = c.rows.invariant.1 in
    let step = c.in_default.ensures in (
      still_keeps now.sql (_, now.is_list) _ c.requires.office _ (survives_on _ _ _ now.crash step.survives) (step.mode now.mode) (unchanged g c),
      λ clean. (clean, (unchanged g c clean).0.is_open),
    )

gives : (g : Over) (c : In_default g) → HasCleanDisk (new g c)
    → GivesOn g.S.Store c.rows.invariant.1.sql (params_of (g.T.StoredRow.kept.whose c.args.of)) c.rows.rows.conn.now c.advance.new.self.conn.now c.rows.invariant.1.given (row_if c.advance.new.self.has_row c.advance.new.self.conn.now)
gives g c clean =
    let step = c.in_default.ensures in
    step.ok clean _ _ _ (c.rows.invariant.1.has_given (omega (arith, clean, step.survives.clean)))

-- ---- the goals

pub returns-in-Err : goal.returns-in-Err
returns-in-Err g c =
    let held = rw (c.in-Err.is, c.requires.params) at c.query.follows.holds-at-none in
    let kept = unqueried_keeps c.texts.result.list.now (_, c.texts.ensures.list c.args.of) _ c.requires.office _ _ held.survives (held.mode c.requires.office.autocommit) _ held.err in
    search rules

pub rows-init : goal.rows-init
rows-init g c =
    let list = c.texts.ensures.list c.args.of in
    let made = rw c.requires.params at c.in-Ok.ensures in
    let mode = made.mode c.requires.office.autocommit in
    let begun = λ (clean : HasCleanDisk (state g.S.Store c.in-Ok.rows.conn.now)). starts c.texts.result.list.now (_, list) _ c.requires.office g.S.Store _ c.args.conn.now c.in-Ok.rows.conn.now (made.begun clean) in (
      refl,
      record {
        sql = c.texts.result.list.now;
        is_list = list;
        given = [];
        records = [];
        held = c.requires.begun;
        within = tt;
        shown = refl;
        crash = queried_survives _ (_, list) _ c.requires.office _ _ made.survives mode;
        mode = mode;
        same = λ clean. (begun clean).1;
        has_given = λ clean. (begun clean).0;
      },
    )

pub returns-in-Err-advance : goal.returns-in-Err-advance
returns-in-Err-advance g c =
    let now = c.rows.invariant.1 in
    let step = c.in-Err-advance.ensures in
    let kept : Keeps (state g.S.Store c.args.conn.now) (state g.S.Store c.advance.new.self.conn.now) =
    broken_keeps now.sql (_, now.is_list) _ c.requires.office _ now.crash now.mode now.same _ step.survives (step.mode now.mode) _ step.kept in
    search rules

pub returns-in_default-get : goal.returns-in_default-get
returns-in_default-get g c =
    let mine = (goal.at.returns-in_default-get g c).In_default in
    let now = c.rows.invariant.1 in
    let office = c.requires.office in
    let kept = keeps g mine in
    let says : IsHonest (new g mine) → Gathers g.G.Gather.holds g.T.StoredRow.kept c.args.of (content_now (old g mine)) c.rows.found = λ h.
    let was = kept.0.honest h in
    let reads = all_read now.sql (_, now.is_list) _ office _ now.crash now.mode now.same _ _ c.in_default.ensures.survives.clean now.given
    (λ clean. rw (← c.get.ensures, c.in_default-get.is) at (gives g mine clean)) h in
    record {
      records = now.records;
      held = now.held;
      within = now.within;
      lists = now.shown ∙ lists _ (old g mine).now (office.schema was) (office.sound was) (office.ordered was) _ _ now.is_list now.given reads;
    } in
    search rules

pub returns-in_err-record : goal.returns-in_err-record
returns-in_err-record g c =
    let mine = (goal.at.returns-in_err-record g c).In_default in
    let now = c.rows.invariant.1 in
    let office = c.requires.office in
    let step = c.in_default.ensures in
    let kept = keeps g mine in
    let damaged : c.read.result ≡ Err Damaged → IsHonest (new g mine) → HasStoredDamage g.T.StoredRow.kept c.args.of (content_now (old g mine)) = λ is h.
    let so_far = now.given ++ c.in-Some.row.now ∷ [] in
    let given = rw (← c.get.ensures, c.in-Some.is) at (gives g mine h.0) in
    let whole = some_read now.sql (_, now.is_list) _ office (new g mine) (survives_on _ _ _ now.crash step.survives) (step.mode now.mode) (unchanged g mine) _ _ _ now.is_list h so_far (given_begin g.S.Store now.sql _ c.advance.new.self.conn.now so_far given) in
    let was = kept.0.honest h in
    let all = so_far ++ whole.0 in
    damaged_at _ _ _ _ _ _ all
    (lists _ (old g mine).now (office.schema was) (office.sound was) (office.ordered was) _ _ now.is_list all whole.1)
    (width _ (old g mine).now (office.schema was) (office.sound was) (office.ordered was) _ _ now.is_list all whole.1)
    c.in-Some.row.now (has_mid now.given c.in-Some.row.now whole.0) (c.read.ensures.damaged is) in
    search rules

pub returns-in_err-take : goal.returns-in_err-take
returns-in_err-take g c = let kept = keeps g (goal.at.returns-in_err-take g c).In_default in search rules

pub rows-preserved : goal.rows-preserved
rows-preserved g c =
    let mine = (goal.at.rows-preserved g c).In_default in
    let now = c.rows.invariant.1 in
    let step = c.in_default.ensures in
    let it = c.in_ok-record.ensures in (
      step.same_reference ∙ c.rows.invariant.0,
      record {
        sql = now.sql;
        is_list = now.is_list;
        given = now.given ++ c.in-Some.row.now ∷ [];
        records = now.records ++ c.in_ok-record.record ∷ [];
        held = c.in_ok-take.ensures now.records now.held;
        within = all_more g.T.StoredRow.kept.is_within now.records c.in_ok-record.record now.within it.within;
        shown = one_more (stored_for (g.T.StoredRow.kept.key c.args.of) g.T.StoredRow.kept.columns) (row_shown g.T.StoredRow.kept.table) now.records now.given
            c.in_ok-record.record c.in-Some.row.now now.shown (λ i. (it.key i, it.columns i));
        crash = survives_on _ _ _ now.crash step.survives;
        mode = step.mode now.mode;
        same = unchanged g mine;
        has_given = λ clean. rw (← c.get.ensures, c.in-Some.is) at (gives g mine clean);
      },
    )
