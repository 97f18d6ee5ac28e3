use Rattle.office_tables_decisions.proofs.Decisions.{told_decides}
use Rattle.office_desk.proofs.Recorded.{stock_shows}
use Rattle.office_desk.proofs.register_showing.decide_stock.Goals as goal

pub returns-clause-decides : goal.returns-clause-decides
returns-clause-decides g c =
    told_decides _ _ _ _ _ (rw c.new-parts.ensures at c.from_reply.ensures.reply) (λ e. cc) (λ why e. absurd cc) c.from_reply.ensures.no_changes
    (λ honest office stands. stock_shows _ office _ stands (c.in_ok-list.ensures.shows honest))
