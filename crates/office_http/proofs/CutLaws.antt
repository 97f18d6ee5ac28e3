-- Two runs, the second from the office that the first left, are one.
use Rattle.std.proofs.Common.{◌≡◌, ℕ, List, [], ◌∷◌, ◌++◌, refl, sym, ap, subst, ◌∙◌, append_assoc}
use Rattle.std.specs.Prelude.{Result, Ok, Err}
use Rattle.office_machine.specs.{Office.IsSound, Office.Office, Step.AreSound, Step.Run, declared.command.Command.Command, declared.reply.Reply.Reply}
use Rattle.office_http.specs.Laws.{LawsJoin, TellsRead, TellsReplies, asked_in, asked_of}
use Rattle.office_http.specs.Protocol.{read_of}
use Rattle.office_http.proofs.StreamLaws.{keeps_laws}
use Rattle.office_http_framing.specs.Front.{PlainRequest}
use Rattle.office_http_requests.specs.declared.command.Asked.{Asked}
use Rattle.office_http_requests.specs.declared.fault.AskFault.{AskFault}

asked-append : (requests more : List PlainRequest) → asked_in (requests ++ more) ≡ asked_in requests ++ asked_in more
asked-append [] more = refl
asked-append (request ∷ requests) more = ap (λ t. asked_of request ++ t) (asked-append requests more) ∙ sym (append_assoc (asked_of request) (asked_in requests) (asked_in more))

run-join : (commands : List Command) (replies : List Reply) (first middle last : Office) (more : List Command) (others : List Reply)
    → (run : Run first commands replies middle) → AreSound first commands replies middle run → (then : Run middle more others last) → AreSound middle more others last then
    → (all : Run first (commands ++ more) (replies ++ others) last) × AreSound first (commands ++ more) (replies ++ others) last all
run-join [] [] first middle last more others run sound then later = subst (λ o. (r : Run o more others last) × AreSound o more others last r) run (then, later)
run-join (command ∷ commands) (reply ∷ replies) first middle last more others run sound then later =
    let rest = run-join commands replies run.0 middle last more others run.2 sound.1 then later in
    ((run.0, run.1, rest.0), (sound.0, rest.1))
run-join [] (reply ∷ replies) first middle last more others run sound then later = absurd run
run-join (command ∷ commands) [] first middle last more others run sound then later = absurd run

-- the first office of a run and the last one are sound
sound_ends : (commands : List Command) (replies : List Reply) (first last : Office) (run : Run first commands replies last) → AreSound first commands replies last run → IsSound first × IsSound last
sound_ends [] [] first last run sound = (sound, subst IsSound (sym run) sound)
sound_ends (command ∷ commands) (reply ∷ replies) first last run sound = (sound.0, (sound_ends commands replies run.0 last run.2 sound.1).1)
sound_ends [] (reply ∷ replies) first last run sound = absurd run
sound_ends (command ∷ commands) [] first last run sound = absurd run

read-join : (read : Result Asked AskFault) (answer : List ℕ) (replies left others : List Reply) → TellsRead read answer replies left → TellsRead read answer (replies ++ others) (left ++ others)
read-join (Ok asked) answer replies left others tells = (tells.0, tells.1, ap (λ t. t ++ others) tells.2)
read-join (Err fault) answer replies left others tells = (tells.0, ap (λ t. t ++ others) tells.1)

replies-join : (requests : List PlainRequest) (replies : List Reply) (answers : List (List ℕ)) (more : List PlainRequest) (others : List Reply) (texts : List (List ℕ))
    → TellsReplies requests replies answers → TellsReplies more others texts → TellsReplies (requests ++ more) (replies ++ others) (answers ++ texts)
replies-join [] [] [] more others texts tells later = later
replies-join (request ∷ requests) replies (answer ∷ answers) more others texts tells later =
    (tells.0 ++ others, read-join (read_of request) answer replies tells.0 others tells.1, replies-join requests tells.0 answers more others texts tells.2 later)
replies-join [] [] (answer ∷ answers) more others texts tells later = absurd tells
replies-join [] (reply ∷ replies) answers more others texts tells later = absurd tells
replies-join (request ∷ requests) replies [] more others texts tells later = absurd tells

pub laws_join : LawsJoin
laws_join before middle after requests more answers texts one two =
    let joined = run-join (asked_in requests) one.replies before middle after (asked_in more) two.replies one.run one.sound two.run two.sound in
    let all = subst (λ commands. (run : Run before commands (one.replies ++ two.replies) after) × AreSound before commands (one.replies ++ two.replies) after run) (sym (asked-append requests more)) joined in
    keeps_laws before after (requests ++ more) (answers ++ texts)
    (sound_ends (asked_in requests) one.replies before middle one.run one.sound).0
    (sound_ends (asked_in more) two.replies middle after two.run two.sound).1
    (record { replies = one.replies ++ two.replies; run = all.0; sound = all.1; tells = replies-join requests one.replies answers more two.replies texts one.tells two.tells })
