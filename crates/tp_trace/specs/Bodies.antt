-- What a mail says: its kind, and then each value behind its key. Where there is no value its word is left out.
use Rattle.std.specs.Prelude.{ℕ, List, [], ◌++◌, Option, Some, None, codes, decimal, length, option_map}
use Rattle.std.specs.Fmt.{signed_decimal}
use Rattle.tp_model.specs.Words.{Answer, Body, DoneReply, Mail, NewestReply, PrepareRequest, QueryRequest, Scenario, TellReply, ValidateRequest, Verdict, VerdictsReply, Version, Vote, VoteReply}
use Rattle.tp_model.specs.Words.answer
use Rattle.tp_model.specs.Words.body
use Rattle.tp_model.specs.Words.vote
use Rattle.tp_report.specs.ReportText.{admin_name, outcome_word, txn_name}
use Rattle.tp_report.specs.StepText.{actor_word}
use Rattle.tp_trace.specs.Words.{joined, no_words, of_admin_words, staple_words, staple_words_if, verdict_word, versions_word, want_words, word_if}

-- the kind of a mail
abbrev pub body_kind : Body → List ℕ
body_kind (body.Query _) = codes "query"
body_kind (body.Done _) = codes "done"
body_kind (body.Ask _) = codes "ask"
body_kind (body.Tell _) = codes "tell"
body_kind (body.Validate _) = codes "validate"
body_kind (body.Verdicts _) = codes "verdicts"
body_kind (body.Prepare _) = codes "prepare"
body_kind (body.Vote _) = codes "vote"
body_kind (body.Probe _) = codes "probe"
body_kind (body.Newest _) = codes "newest"
body_kind (body.Decide _) = codes "decide"
body_kind (body.Ack _) = codes "ack"
body_kind (body.Inquire _) = codes "inquire"
body_kind (body.Push _) = codes "push"

abbrev pub version_number : Version → List ℕ
version_number version = decimal version.0

-- the age and the server's epoch, where they are known, and the value of a write
abbrev pub asked_words : QueryRequest → List ℕ
asked_words asked =
    word_if (codes " age=") (option_map decimal asked.age)
    ++ word_if (codes " epoch=") (option_map decimal asked.epoch)
    ++ word_if (codes " value=") (option_map signed_decimal asked.value)

abbrev pub query_words : QueryRequest → List ℕ
query_words asked =
    codes " turn=" ++ decimal asked.turn ++ codes " q=" ++ decimal asked.query
    ++ asked_words asked ++ staple_words_if asked.staple
    ++ word_if (codes " pin=") (option_map version_number asked.pin)

-- what became of a query
abbrev pub answer_words : Scenario → Answer → List ℕ
answer_words sc (answer.Ran value verdict) =
    codes "ran value=" ++ signed_decimal value
    ++ word_if (codes " verdict=") (option_map (verdict_word sc) verdict)
answer_words sc (answer.Denied verdict) = codes "denied" ++ codes " verdict=" ++ verdict_word sc verdict
answer_words sc (answer.Newer newer) =
    codes "newer" ++ codes " admin=" ++ admin_name sc newer.admin ++ codes " used="
    ++ decimal newer.used.0 ++ codes " found=" ++ decimal newer.found.0
answer_words sc (answer.Died other) = codes "died for=" ++ txn_name sc other
answer_words sc answer.Restarted = codes "restarted"

abbrev pub done_words : Scenario → DoneReply → List ℕ
done_words sc done =
    codes " turn=" ++ decimal done.turn ++ codes " q=" ++ decimal done.query
    ++ codes " epoch=" ++ decimal done.epoch ++ codes " answer=" ++ answer_words sc done.answer

-- how many credentials are revoked: who they are stands in the facts
abbrev pub tell_words : TellReply → List ℕ
tell_words tell =
    codes " turn=" ++ decimal tell.turn ++ codes " clock=" ++ decimal tell.clock
    ++ codes " revoked=" ++ decimal (length tell.revoked)

abbrev pub validate_words : Scenario → ValidateRequest → List ℕ
validate_words sc asked =
    codes " turn=" ++ decimal asked.turn ++ codes " epoch=" ++ decimal asked.epoch
    ++ staple_words asked.staple ++ want_words sc asked.want

-- the verdicts, or that the server has restarted
abbrev pub shown_words : Scenario → Option (List Verdict) → List ℕ
shown_words sc None = codes " why=restarted"
shown_words sc (Some verdicts) = codes " verdicts=" ++ joined (verdict_word sc) verdicts

abbrev pub verdicts_words : Scenario → VerdictsReply → List ℕ
verdicts_words sc reply = codes " turn=" ++ decimal reply.turn ++ shown_words sc reply.verdicts

abbrev pub prepare_words : Scenario → PrepareRequest → List ℕ
prepare_words sc asked =
    codes " turn=" ++ decimal asked.turn ++ codes " epoch=" ++ decimal asked.epoch
    ++ staple_words_if asked.staple ++ want_words sc asked.want

-- YES with the verdicts, or NO with the reason
abbrev pub ballot_words : Scenario → Vote → List ℕ
ballot_words sc (vote.Yes verdicts) =
    codes "yes" ++ codes " verdicts=" ++ joined (verdict_word sc) verdicts
ballot_words sc (vote.No why) = codes "no" ++ no_words why

abbrev pub vote_words : Scenario → VoteReply → List ℕ
vote_words sc reply =
    codes " turn=" ++ decimal reply.turn ++ codes " vote=" ++ ballot_words sc reply.vote

abbrev pub newest_words : Scenario → NewestReply → List ℕ
newest_words sc reply =
    codes " turn=" ++ decimal reply.turn ++ codes " newest=" ++ versions_word sc reply.newest

-- what stands behind the kind
abbrev pub body_words : Scenario → Body → List ℕ
body_words sc (body.Query asked) = query_words asked
body_words sc (body.Done done) = done_words sc done
body_words sc (body.Ask asked) = codes " turn=" ++ decimal asked.turn
body_words sc (body.Tell tell) = tell_words tell
body_words sc (body.Validate asked) = validate_words sc asked
body_words sc (body.Verdicts reply) = verdicts_words sc reply
body_words sc (body.Prepare asked) = prepare_words sc asked
body_words sc (body.Vote reply) = vote_words sc reply
body_words sc (body.Probe asked) = codes " turn=" ++ decimal asked.turn
body_words sc (body.Newest reply) = newest_words sc reply
body_words sc (body.Decide told) = codes " outcome=" ++ outcome_word told.outcome
body_words sc (body.Ack _) = []
body_words sc (body.Inquire _) = []
body_words sc (body.Push push) = of_admin_words sc push.admin push.version

-- `N FROM TO BODY`: a mail by its number, from whom it is, to whom, and what it says
unfoldable pub mail_text : Scenario → Mail → List ℕ
mail_text sc mail =
    decimal mail.number ++ codes " " ++ actor_word sc mail.letter.from ++ codes " "
    ++ actor_word sc mail.letter.to ++ codes " "
    ++ (body_kind mail.letter.body ++ body_words sc mail.letter.body)
