-- The names that a legal outcome of a script tells are plain: letters, digits and `_` alone.
use Rattle.std.proofs.Common.{◌≡◌, ℕ, zero, suc, ◌+◌, ◌-◌, ◌<◌, true, false, cond, List, [], ◌∷◌, ◌++◌, length, Option, Some, None, refl, sym, ◌∙◌, ap, subst, arith}
use Rattle.std.specs.Prelude.{codes, fold, map, take, count_by}
use Rattle.std.specs.List.{All, slice_get}
use Rattle.std.proofs.lemmas.List.Elements.{All-nil, All-cons, All-append, All-get_or}
use Rattle.std.proofs.lemmas.Option.{slice_get_within, get_or_from_slice_get}
use Rattle.hv_row.specs.Schema.{same_name}
use Rattle.hv_model.specs.Token.{IsPlain, is_name}
use Rattle.hv_model.specs.declared.tree.Ast.{Ast}
use Rattle.hv_model.specs.declared.tree.Ast.TheVariants as ast
use Rattle.hv_model.specs.declared.script.Statement.{Statement}
use Rattle.hv_model.specs.declared.script.Script.{Script}
use Rattle.hv_model.specs.declared.catalogue.Entry.{Entry}
use Rattle.hv_model.specs.declared.reply.Reply.{Reply}
use Rattle.hv_model.specs.declared.reply.Reply.TheVariants.{Done, Rows, Refused, Failed}
use Rattle.hv_model.specs.Parsed.{tree_of}
use Rattle.hv_model.specs.Command.{statements}
use Rattle.hv_model.specs.Script.{Cut, Placed, placed_first, is_session, with_session, place_cut, after_cut, IsScript}
use Rattle.hv_model.specs.Sessions.{HasSessions}
use Rattle.hv_model.specs.Legal.{Stands, count_of_session, reply_to, EachOnce, Legal}
use Rattle.hv_model.proofs.Places.{passing}
use Rattle.hv_model.proofs.SessionScripts.{same_name-true}
use Rattle.hv_model.proofs.SessionReplies.{reply_to-at}
use Rattle.hv_model.proofs.ScriptSessions.{script_sessions}
use Rattle.hv_model.proofs.TokenLaws.{name_bytes}
use Rattle.hv_sql.proofs.Names.{told_table, entry_named, session_named}

-- the session and the table of an entry
pub record PlainEntry (e : Entry) : Type 0 where
  pub session : IsPlain e.session
  pub table : IsPlain (told_table e.what)

-- the table of a command that a reply says was accepted
abbrev pub PlainReply : Reply → Type 0
PlainReply (Done at what) = IsPlain (told_table what)
PlainReply (Rows at rows) = Unit {0}
PlainReply (Refused at cause) = Unit {0}
PlainReply (Failed at cause) = Unit {0}

-- all names that an outcome tells
pub record NamesPlain (s : Script) (history : List Entry) (by_session : List (List Reply)) : Type 0 where
  pub sessions : All IsPlain s.sessions
  pub entries : All PlainEntry history
  pub replies : All (All PlainReply) by_session

plain_name : (name : List ℕ) → is_name name ≡ true → IsPlain name
plain_name name is = name_bytes name is

-- what holds of all elements holds of one that is found, and what holds of each that is found of all
one_of_all : {X : Type 0} (P : X → Type 0) (xs : List X) (k : ℕ) (x : X) → All P xs → slice_get xs k ≡ Some x → P x
one_of_all P xs k x all at = subst P (get_or_from_slice_get xs k x x at) (All-get_or P xs k x (slice_get_within xs k x at) all)

all_found : {X : Type 0} (P : X → Type 0) (xs : List X) → ((k : ℕ) (x : X) → slice_get xs k ≡ Some x → P x) → All P xs
all_found P [] each = All-nil P
all_found P (x ∷ xs) each = All-cons P x xs (each 0 x refl) (all_found P xs (λ k y at. each (suc k) y at))

-- ---- the names of sessions

plain_with : (names : List (List ℕ)) (name : List ℕ) → All IsPlain names → IsPlain name → All IsPlain (with_session names name)
plain_with names name all plain = elim (is_session names name) as (λ v. All IsPlain (cond v names (names ++ name ∷ []))) [
  | true ↦ all
  | false ↦ All-append IsPlain names (name ∷ []) all (All-cons IsPlain name [] plain (All-nil IsPlain))
]

-- the session that a tree sets
abbrev SetsPlain : Option Ast → Type 0
SetsPlain (Some (ast.Session word)) = IsPlain word.name
SetsPlain _ = Unit {0}

sets_plain : (text : List ℕ) → SetsPlain (tree_of text)
sets_plain text = go (tree_of text) refl
  where
    go : (tree : Option Ast) → tree_of text ≡ tree → SetsPlain tree
    go None is = tt
    go (Some (ast.Create table columns)) is = tt
    go (Some (ast.Import table wanted)) is = tt
    go (Some (ast.Purge chunk table)) is = tt
    go (Some (ast.Merge chunks table)) is = tt
    go (Some (ast.Session word)) is = plain_name word.name (session_named text word is)
    go (Some ast.Barrier) is = tt
    go (Some (ast.Select x)) is = tt

plain_after : (s : Placed) (cut : Cut) (tree : Option Ast) → SetsPlain tree → All IsPlain s.sessions → All IsPlain (place_cut s cut tree).sessions
plain_after s cut None sets all = all
plain_after s cut (Some (ast.Create table columns)) sets all = all
plain_after s cut (Some (ast.Import table wanted)) sets all = all
plain_after s cut (Some (ast.Purge chunk table)) sets all = all
plain_after s cut (Some (ast.Merge chunks table)) sets all = all
plain_after s cut (Some (ast.Session word)) sets all = plain_with s.sessions word.name all sets
plain_after s cut (Some ast.Barrier) sets all = all
plain_after s cut (Some (ast.Select x)) sets all = all

plain_fold : (s : Placed) (cuts : List Cut) → All IsPlain s.sessions → All IsPlain (fold after_cut s cuts).sessions
plain_fold s [] all = all
plain_fold s (cut ∷ cuts) all = plain_fold (after_cut s cut) cuts (plain_after s cut (tree_of cut.text) (sets_plain cut.text) all)

plain_main : IsPlain (codes "main")
plain_main = refl

plain_sessions : (bytes : List ℕ) (s : Script) → IsScript bytes s → All IsPlain s.sessions
plain_sessions bytes s is =
    subst (λ (t : Script). All IsPlain t.sessions) (sym is.is)
    (plain_fold placed_first is.front.cuts (All-cons IsPlain (codes "main") [] plain_main (All-nil IsPlain)))

-- ---- the statement of each reply

-- a list of replies has its session, with as many statements
record IsCounted (names : List (List ℕ)) (count : List ℕ → ℕ) (at : ℕ) (of_session : List Reply) : Type 0 where
  name : List ℕ
  stands : slice_get names at ≡ Some name
  counted : length of_session ≡ count name

counted_at : (replies : List (List Reply)) (names : List (List ℕ)) (count : List ℕ → ℕ) (at : ℕ) (of_session : List Reply)
    → map (λ (rs : List Reply). length rs) replies ≡ map count names → slice_get replies at ≡ Some of_session → IsCounted names count at of_session
counted_at [] names count at of_session same is = absurd cc
counted_at (rs ∷ replies) [] count at of_session same is = absurd cc
counted_at (rs ∷ replies) (name ∷ names) count zero of_session same is = record { name = name; stands = refl; counted = ap (λ (q : List Reply). length q) (some_list (sym is)) ∙ heads same }
  where
    some_list : ◌≡◌ {A = Option (List Reply)} (Some of_session) (Some rs) → of_session ≡ rs
    some_list e = cc

    heads : length rs ∷ map (λ (q : List Reply). length q) replies ≡ count name ∷ map count names → length rs ≡ count name
    heads e = cc
counted_at (rs ∷ replies) (name ∷ names) count (suc at) of_session same is =
    let behind = counted_at replies names count at of_session (tails same) is in
    record { name = behind.name; stands = behind.stands; counted = behind.counted }
  where
    tails : length rs ∷ map (λ (q : List Reply). length q) replies ≡ count name ∷ map count names → map (λ (q : List Reply). length q) replies ≡ map count names
    tails e = cc

-- a reply is the one to a statement
record IsReplied (s : Script) (replies : List (List Reply)) (r : Reply) : Type 0 where
  statement : Statement
  stands : Stands s statement
  told : reply_to s replies statement ≡ Some r

replied_at : (s : Script) (replies : List (List Reply)) → HasSessions s → EachOnce s replies → (at k : ℕ) (of_session : List Reply) (r : Reply)
    → slice_get replies at ≡ Some of_session → slice_get of_session k ≡ Some r → IsReplied s replies r
replied_at s replies has once at k of_session r list_at reply_at =
    let list = counted_at replies s.sessions (count_of_session s) at of_session once.counts list_at in
    let below : k < length of_session = slice_get_within of_session k r reply_at in
    let x = passing (λ y. same_name y.session list.name) (statements s) k (subst (λ (n : ℕ). k < n) list.counted below) in
    let session : x.element.session ≡ list.name = same_name-true x.element.session list.name x.passes in
    let before : count_by (λ y. same_name y.session x.element.session) (take x.place (statements s)) ≡ k =
    subst (λ (name : List ℕ). count_by (λ y. same_name y.session name) (take x.place (statements s)) ≡ k) (sym session) x.counted in
    let number : x.element.number ≡ count_by (λ y. same_name y.session x.element.session) (take x.place (statements s)) + 1 = has.numbered x.place x.element x.stands in
    let behind : x.element.number - 1 ≡ k = omega arith in
    record {
      statement = x.element;
      stands = (x.place, x.stands);
      told = reply_to-at s has replies at x.element of_session (list.stands ∙ ap (λ (name : List ℕ). Some name) (sym session)) list_at
          ∙ ap (λ n. slice_get of_session n) behind ∙ reply_at;
    }

-- ---- the names of an outcome

plain_entry : (s : Script) (max : ℕ) (known : Type 0) (history : List Entry) (replies : List (List Reply)) → HasSessions s → All IsPlain s.sessions
    → Legal s max known history replies → (k : ℕ) (e : Entry) → slice_get history k ≡ Some e → PlainEntry e
plain_entry s max known history replies has plain legal k e at =
    let had = legal.parts.entries (suc k) e at in
    let named = has.named had.0 had.1 in
    record {
      session = subst (λ (name : List ℕ). IsPlain name) (sym had.2.session) (one_of_all IsPlain s.sessions named.0 had.0.session plain named.1);
      table = plain_name (told_table e.what) (entry_named s max known history replies legal (suc k) e at);
    }

plain_reply : (s : Script) (max : ℕ) (known : Type 0) (history : List Entry) (replies : List (List Reply)) → Legal s max known history replies
    → (r : Reply) → IsReplied s replies r → PlainReply r
plain_reply s max known history replies legal (Done n what) x =
    let had = legal.parts.done x.statement n what x.stands x.told in
    subst (λ told. IsPlain (told_table told)) had.3 (plain_name (told_table had.0.what) (entry_named s max known history replies legal n had.0 had.1))
plain_reply s max known history replies legal (Rows n rows) x = tt
plain_reply s max known history replies legal (Refused n cause) x = tt
plain_reply s max known history replies legal (Failed n cause) x = tt

-- of a script whose sessions have plain names
pub names_are_plain : (s : Script) (max : ℕ) (known : Type 0) (history : List Entry) (replies : List (List Reply)) → HasSessions s → All IsPlain s.sessions
    → Legal s max known history replies → NamesPlain s history replies
names_are_plain s max known history replies has plain legal = record {
  sessions = plain;
  entries = all_found PlainEntry history (plain_entry s max known history replies has plain legal);
  replies = all_found (All PlainReply) replies (λ at of_session list_at. all_found PlainReply of_session
      (λ k r reply_at. plain_reply s max known history replies legal r (replied_at s replies has legal.once at k of_session r list_at reply_at)));
}

-- of a script that bytes are
pub script_names_plain : (bytes : List ℕ) (s : Script) (max : ℕ) (known : Type 0) (history : List Entry) (replies : List (List Reply))
    → IsScript bytes s → Legal s max known history replies → NamesPlain s history replies
script_names_plain bytes s max known history replies is legal = names_are_plain s max known history replies (script_sessions bytes s is) (plain_sessions bytes s is) legal
