-- The names that a legal outcome tells are plain, as the law of reports wants it.
use Rattle.std.proofs.Common.{◌≡◌, ℕ, List, [], ◌∷◌, length, map, sym, ◌∙◌, ap}
use Rattle.std.specs.List.{All}
use Rattle.std.proofs.lemmas.List.{length-map}
use Rattle.std.proofs.lemmas.List.Elements.{All-nil, All-cons, All-head, All-tail}
use Rattle.hv_model.specs.declared.script.Script.{Script}
use Rattle.hv_model.specs.declared.catalogue.Detail.{Detail}
use Rattle.hv_model.specs.declared.catalogue.Detail.TheVariants as detail
use Rattle.hv_model.specs.declared.catalogue.Entry.{Entry}
use Rattle.hv_model.specs.declared.reply.Reply.{Reply}
use Rattle.hv_model.specs.declared.reply.Reply.TheVariants.{Done, Rows, Refused, Failed}
use Rattle.hv_model.specs.Legal.{count_of_session}
use Rattle.hv_model.specs.Token.{IsPlain}
use Rattle.hv_report.specs.Law.{Named, DetailNamed, EntryNamed, ReplyNamed, SessionNamed}
use Rattle.hv_script.proofs.Names.{PlainEntry, PlainReply, NamesPlain}
use Rattle.hv_sql.proofs.Names.{told_table}
use Rattle.hv_world.specs.World.{sessions_of, report_of}

-- a detail by its table
detail_named : (what : Detail) → IsPlain (told_table what) → DetailNamed what
detail_named (detail.Create table) plain = plain
detail_named (detail.Import table chunk rows) plain = plain
detail_named (detail.Purge table chunk) plain = plain

reply_named : (r : Reply) → PlainReply r → ReplyNamed r
reply_named (Done at what) plain = detail_named what plain
reply_named (Rows at rows) plain = tt
reply_named (Refused at cause) plain = tt
reply_named (Failed at cause) plain = tt

entry_named : (e : Entry) → PlainEntry e → EntryNamed e
entry_named e plain = record { session = plain.session; what = detail_named e.what plain.table }

-- there is a list of replies for each session where there are as many of each as its statements
pub lists_are : (s : Script) (replies : List (List Reply)) → map (λ of_session. length of_session) replies ≡ map (count_of_session s) s.sessions → length replies ≡ length s.sessions
lists_are s replies counts =
    sym (length-map replies (λ (of_session : List Reply). length of_session)) ∙ ap (λ (each : List ℕ). length each) counts ∙ length-map s.sessions (count_of_session s)

-- what follows of each follows of all
all_follow : {X : Type 0} (P Q : X → Type 0) → ((x : X) → P x → Q x) → (xs : List X) → All P xs → All Q xs
all_follow P Q follows xs all i d within = follows _ (all i d within)

-- each session with its replies
sessions_named : (names : List (List ℕ)) (replies : List (List Reply)) → All IsPlain names → All (λ of_session. All PlainReply of_session) replies → All SessionNamed (sessions_of names replies)
sessions_named [] replies plain all = All-nil SessionNamed
sessions_named (name ∷ names) [] plain all = All-nil SessionNamed
sessions_named (name ∷ names) (of_session ∷ replies) plain all =
    All-cons SessionNamed (record { name = name; replies = of_session }) (sessions_of names replies)
    (record { name = All-head IsPlain name names plain; replies = all_follow PlainReply ReplyNamed reply_named of_session (All-head (λ rs. All PlainReply rs) of_session replies all) })
    (sessions_named names replies (All-tail IsPlain name names plain) (All-tail (λ rs. All PlainReply rs) of_session replies all))

pub named_of : (s : Script) (history : List Entry) (replies : List (List Reply)) → NamesPlain s history replies → Named (report_of s history replies)
named_of s history replies plain = record {
  sessions = sessions_named s.sessions replies plain.sessions plain.replies;
  history = all_follow PlainEntry EntryNamed entry_named history plain.entries;
}
