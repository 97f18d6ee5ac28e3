-- The transaction's refusals: their numbers and names.
use Rattle.std.specs.Prelude.{ℕ, List, codes}
use Rattle.draft_core.specs.declared.refusal.DraftRefusal.{DraftRefusal}
use Rattle.draft_core.specs.declared.refusal.DraftRefusal.TheVariants.{NotNormal, NotTransaction, NotOwner, NotVerify, NotDone, VerifyFailed, RevisionFull, NoMemory}

-- a refusal's number and name; want of memory has those of Unavailable, which the office answers for it
abbrev pub line_of : DraftRefusal → ℕ × List ℕ
line_of NotNormal = (12, codes "NotNormal")
line_of NotTransaction = (13, codes "NotTransaction")
line_of NotOwner = (14, codes "NotOwner")
line_of NotVerify = (15, codes "NotVerify")
line_of NotDone = (16, codes "NotDone")
line_of (VerifyFailed count) = (17, codes "VerifyFailed")
line_of RevisionFull = (18, codes "RevisionFull")
line_of NoMemory = (90, codes "Unavailable")
