-- The table that a statement's text creates, imports into or purges has a name, and so have the session that one sets and the table of an entry of
-- a legal history.
use Rattle.std.proofs.Common.{◌≡◌, ℕ, true, List, [], ◌∷◌, length, Option, Some, None, refl, subst, inl, inr}
use Rattle.std.specs.Prelude.{Result, Ok, Err}
use Rattle.std.specs.Result.{result_map_both}
use Rattle.hv_row.specs.declared.schema.Column.{Column}
use Rattle.hv_model.specs.declared.lexeme.Sort.{Sort}
use Rattle.hv_model.specs.declared.lexeme.Sort.TheVariants as sort
use Rattle.hv_model.specs.declared.lexeme.Token.{Token}
use Rattle.hv_model.specs.declared.lexeme.Keyword.{Keyword}
use Rattle.hv_model.specs.declared.lexeme.Keyword.TheVariants as k
use Rattle.hv_model.specs.declared.lexeme.Symbol.{Symbol}
use Rattle.hv_model.specs.declared.lexeme.Lexeme.{Lexeme}
use Rattle.hv_model.specs.declared.lexeme.What.{What}
use Rattle.hv_model.specs.declared.lexeme.What.TheVariants as what
use Rattle.hv_model.specs.declared.tree.Word.{Word}
use Rattle.hv_model.specs.declared.tree.Ast.{Ast}
use Rattle.hv_model.specs.declared.tree.Ast.TheVariants as ast
use Rattle.hv_model.specs.declared.script.Statement.{Statement}
use Rattle.hv_model.specs.declared.script.Script.{Script}
use Rattle.hv_model.specs.declared.catalogue.Command.TheVariants.{Create, Import, Purge}
use Rattle.hv_model.specs.declared.catalogue.Detail.{Detail}
use Rattle.hv_model.specs.declared.catalogue.Detail.TheVariants as detail
use Rattle.hv_model.specs.declared.catalogue.Entry.{Entry}
use Rattle.hv_model.specs.declared.reply.Refusal.{Refusal}
use Rattle.hv_model.specs.declared.reply.Reply.{Reply}
use Rattle.hv_model.specs.Token.{is_name}
use Rattle.hv_model.specs.Lexemes.{keyword_of, symbol_of, bytes_of, tokens_of, IsOf}
use Rattle.hv_model.specs.Lexed.{some_keyword, some_symbol, what_of, lexemes_of, lexemes, AllStandIn}
use Rattle.hv_model.specs.Terminals.{is_keyword, is_number, word_of}
use Rattle.hv_model.specs.Grammar.{one}
use Rattle.hv_model.specs.Sql.{most_number, name, create, import, purge, merge, session, barrier, select, statement}
use Rattle.hv_model.specs.SqlReading.{tree_at}
use Rattle.hv_model.specs.Parsed.{placed, parsed, some_tree, tree_of}
use Rattle.hv_model.specs.Import.{rows_of}
use Rattle.hv_model.specs.Causes.{first_of, given_unless}
use Rattle.hv_model.specs.Database.{Rows, RowTable, RowDatabase, RowCommand}
use Rattle.hv_model.specs.Command.{table_named, column_causes, import_into, command_of, text_command, detail_of, entry_at}
use Rattle.hv_model.specs.Legal.{Accepted, Legal}
use Rattle.hv_sql.proofs.Standing.{tokens_stand}
use Rattle.hv_sql.proofs.OneReading.{trees_sound}

-- a lexeme that is a name has the bytes of one
abbrev IsNamed : What → Type 0
IsNamed (what.Name bytes) = is_name bytes ≡ true
IsNamed _ = Unit {0}

-- so have all of them
abbrev AllNamed : List Lexeme → Type 0
AllNamed [] = Unit {0}
AllNamed (t ∷ ts) = IsNamed t.what × AllNamed ts

keyword_named : (o : Option Keyword) → IsNamed (some_keyword o)
keyword_named (Some w) = tt
keyword_named None = tt

symbol_named : (o : Option Symbol) → IsNamed (some_symbol o)
symbol_named (Some s) = tt
symbol_named None = tt

what_named : (s : Sort) (bytes : List ℕ) → IsOf s bytes → IsNamed (what_of s bytes)
what_named sort.Name bytes is = is
what_named sort.Keyword bytes is = keyword_named (keyword_of bytes)
what_named sort.Number bytes is = tt
what_named sort.Text bytes is = tt
what_named sort.Symbol bytes is = symbol_named (symbol_of bytes)
what_named sort.Other bytes is = tt

tokens_named : (text : List ℕ) (ts : List Token) → AllStandIn text ts → AllNamed (lexemes_of text ts)
tokens_named text [] all = tt
tokens_named text (t ∷ ts) all = (what_named t.sort (bytes_of text t) all.0.sorted, tokens_named text ts all.1)

-- behind a lexeme that was read
rest_named : {A : Type 0} (test : Lexeme → Option A) (lexemes rest : List Lexeme) (n : A) → one test lexemes rest n → AllNamed lexemes → AllNamed rest
rest_named test [] rest n s named = absurd s
rest_named test (t ∷ ts) rest n s named = subst (λ (us : List Lexeme). AllNamed us) s.1 named.1

some_word : (w x : Word) → ◌≡◌ {A = Option Word} (Some w) (Some x) → w ≡ x
some_word w x e = cc

word_named : (w : What) (byte : ℕ) (x : Word) → word_of w byte ≡ Some x → IsNamed w → is_name x.name ≡ true
word_named (what.Name bytes) byte x e named = subst (λ (y : Word). is_name y.name ≡ true) (some_word (record { name = bytes; byte = byte }) x e) named
word_named (what.Number value) byte x e named = absurd cc
word_named (what.Text bytes) byte x e named = absurd cc
word_named (what.Symbol s) byte x e named = absurd cc
word_named (what.Keyword w) byte x e named = absurd cc
word_named what.Other byte x e named = absurd cc

name_named : (lexemes rest : List Lexeme) (w : Word) → name lexemes rest w → AllNamed lexemes → is_name w.name ≡ true
name_named [] rest w s named = absurd s
name_named (t ∷ ts) rest w s named = word_named t.what t.byte w s.0 named.0

-- the table that a statement creates, imports into or purges has a name, and so has the session that one sets
abbrev pub TreeNamed : Ast → Type 0
TreeNamed (ast.Create table columns) = is_name table.name ≡ true
TreeNamed (ast.Import table wanted) = is_name table.name ≡ true
TreeNamed (ast.Purge chunk table) = is_name table.name ≡ true
TreeNamed (ast.Session word) = is_name word.name ≡ true
TreeNamed _ = Unit {0}

-- behind two lexemes that were read
second_named : {A B : Type 0} (p : Lexeme → Option A) (q : Lexeme → Option B) (lexemes a b : List Lexeme) (m : A) (n : B) → one p lexemes a m → one q a b n → AllNamed lexemes → AllNamed b
second_named p q lexemes a b m n first second named = rest_named q a b n second (rest_named p lexemes a m first named)

-- the name behind two keywords
third_named : (p q : Lexeme → Option ℕ) (lexemes a b rest : List Lexeme) (m n : ℕ) (w : Word) → one p lexemes a m → one q a b n → name b rest w → AllNamed lexemes → is_name w.name ≡ true
third_named p q lexemes a b rest m n w first second third named = name_named b rest w third (second_named p q lexemes a b m n first second named)

of_create : (lexemes : List Lexeme) (a : Ast) → create lexemes [] a → AllNamed lexemes → TreeNamed a
unfolding create
of_create lexemes a s named =
    let at = s.second.second in
    subst (λ (b : Ast). TreeNamed b) at.second.second.second.second.1
    (third_named (is_keyword k.Create) (is_keyword k.Table) lexemes _ _ _ s.value s.second.value at.value s.first s.second.first at.first named)

of_import : (lexemes : List Lexeme) (a : Ast) → import lexemes [] a → AllNamed lexemes → TreeNamed a
unfolding import
of_import lexemes a s named =
    let at = s.second.second in
    subst (λ (b : Ast). TreeNamed b) at.second.second.second.1
    (third_named (is_keyword k.Import) (is_keyword k.Into) lexemes _ _ _ s.value s.second.value at.value s.first s.second.first at.first named)

of_purge : (lexemes : List Lexeme) (a : Ast) → purge lexemes [] a → AllNamed lexemes → TreeNamed a
unfolding purge
of_purge lexemes a s named =
    let at = s.second.second in
    let name_at = at.second.second in
    let number_on = second_named (is_keyword k.Purge) (is_keyword k.Chunk) lexemes s.middle s.second.middle s.value s.second.value s.first s.second.first named in
    let name_on = second_named (is_number most_number) (is_keyword k.Of) s.second.middle at.middle at.second.middle at.value at.second.value at.first at.second.first number_on in
    subst (λ (b : Ast). TreeNamed b) name_at.second.1 (name_named at.second.middle name_at.middle name_at.value name_at.first name_on)

of_merge : (lexemes : List Lexeme) (a : Ast) → merge lexemes [] a → TreeNamed a
unfolding merge
of_merge lexemes a s = subst (λ (b : Ast). TreeNamed b) s.second.second.second.second.second.second.second.1 tt

of_session : (lexemes : List Lexeme) (a : Ast) → session lexemes [] a → AllNamed lexemes → TreeNamed a
unfolding session
of_session lexemes a s named =
    let at = s.second in
    let name_on = rest_named (is_keyword k.Session) lexemes s.middle s.value s.first named in
    subst (λ (b : Ast). TreeNamed b) at.second.1 (name_named s.middle at.middle at.value at.first name_on)

of_barrier : (lexemes : List Lexeme) (a : Ast) → barrier lexemes [] a → TreeNamed a
unfolding barrier
of_barrier lexemes a s = subst (λ (b : Ast). TreeNamed b) s.second.1 tt

of_select : (lexemes : List Lexeme) (a : Ast) → select lexemes [] a → TreeNamed a
unfolding select
of_select lexemes a s = subst (λ (b : Ast). TreeNamed b) s.second.second.second.second.second.second.second.1 tt

of_statement : (lexemes : List Lexeme) (a : Ast) → statement lexemes [] a → AllNamed lexemes → TreeNamed a
unfolding statement
of_statement lexemes a (inl s) named = of_create lexemes a s named
of_statement lexemes a (inr (inl s)) named = of_import lexemes a s named
of_statement lexemes a (inr (inr (inl s))) named = of_purge lexemes a s named
of_statement lexemes a (inr (inr (inr (inl s)))) named = of_merge lexemes a s
of_statement lexemes a (inr (inr (inr (inr (inl s))))) named = of_session lexemes a s named
of_statement lexemes a (inr (inr (inr (inr (inr (inl s)))))) named = of_barrier lexemes a s
of_statement lexemes a (inr (inr (inr (inr (inr (inr s)))))) named = of_select lexemes a s

ok_ast : (a b : Ast) → ◌≡◌ {A = Result Ast ℕ} (Ok a) (Ok b) → a ≡ b
ok_ast a b e = cc

-- the table of a text
pub text_named : (text : List ℕ) (a : Ast) → parsed text ≡ Ok a → TreeNamed a
text_named text a is = go (tree_at (lexemes text)) refl is
  where
    go : (r : Result Ast (List Lexeme)) → tree_at (lexemes text) ≡ r → placed (length text) r ≡ Ok a → TreeNamed a
    go (Ok b) read e =
        subst (λ (c : Ast). TreeNamed c) (ok_ast b a e)
        (of_statement (lexemes text) b (trees_sound (lexemes text) b read) (tokens_named text (tokens_of text) (tokens_stand text)))
    go (Err at) read e = absurd cc

-- the name that a text sets as the session of what follows
pub session_named : (text : List ℕ) (w : Word) → tree_of text ≡ Some (ast.Session w) → is_name w.name ≡ true
session_named text w is = go (parsed text) refl is
  where
    some_ast : (a b : Ast) → ◌≡◌ {A = Option Ast} (Some a) (Some b) → a ≡ b
    some_ast a b e = cc

    go : (r : Result Ast ℕ) → parsed text ≡ r → some_tree r ≡ Some (ast.Session w) → is_name w.name ≡ true
    go (Ok a) read e = subst (λ (b : Ast). TreeNamed b) (some_ast a (ast.Session w) e) (text_named text a read)
    go (Err byte) read e = absurd cc

-- the table that a detail tells
abbrev pub told_table : Detail → List ℕ
told_table (detail.Create table) = table
told_table (detail.Import table chunk rows) = table
told_table (detail.Purge table chunk) = table

-- the table of a command
abbrev table_in : RowCommand → List ℕ
table_in (Create table schema) = table
table_in (Import table content) = table
table_in (Purge table chunk) = table

told_in : (s : RowDatabase) (c : RowCommand) → told_table (detail_of s c) ≡ table_in c
told_in s (Create table schema) = refl
told_in s (Import table content) = refl
told_in s (Purge table chunk) = refl

-- the table of a command that is this one
same_named : (c d : RowCommand) → ◌≡◌ {A = Result RowCommand Refusal} (Ok c) (Ok d) → is_name (table_in c) ≡ true → is_name (table_in d) ≡ true
same_named c d e named = let same : c ≡ d = cc in subst (λ (b : RowCommand). is_name (table_in b) ≡ true) same named

create_named : (table : Word) (columns : List Column) (c : RowCommand) (cause : Option Refusal) → is_name table.name ≡ true
    → ◌≡◌ {A = Result RowCommand Refusal} (given_unless cause (Create table.name columns)) (Ok c) → is_name (table_in c) ≡ true
create_named table columns c None named e = same_named (Create table.name columns) c e named
create_named table columns c (Some cause) named e = absurd cc

import_named : (table : Word) (lines : List ℕ) (c : RowCommand) (o : Option RowTable) → is_name table.name ≡ true
    → import_into (λ rows. rows) table lines o ≡ Ok c → is_name (table_in c) ≡ true
import_named table lines c None named e = absurd cc
import_named table lines c (Some t) named e = go (rows_of t.schema lines) e
  where
    go : (r : Result Rows Refusal) → ◌≡◌ {A = Result RowCommand Refusal} (result_map_both (λ rows. Import table.name rows) (λ cause. cause) r) (Ok c) → is_name (table_in c) ≡ true
    go (Err cause) f = absurd cc
    go (Ok rows) f = same_named (Import table.name rows) c f named

command_named : (a : Ast) (lines : List ℕ) (s : RowDatabase) (c : RowCommand) → TreeNamed a → command_of (λ rows. rows) a lines s ≡ Ok c → is_name (table_in c) ≡ true
command_named (ast.Create table columns) lines s c named e = create_named table columns c (first_of (column_causes columns)) named e
command_named (ast.Import table wanted) lines s c named e = import_named table lines c (table_named s table.name) named e
command_named (ast.Purge chunk table) lines s c named e = same_named (Purge table.name chunk) c e named
command_named (ast.Merge parts table) lines s c named e = absurd cc
command_named (ast.Session word) lines s c named e = absurd cc
command_named ast.Barrier lines s c named e = absurd cc
command_named (ast.Select x) lines s c named e = absurd cc

-- the table of a command that a text asks for
asked_named : (text lines : List ℕ) (s : RowDatabase) (c : RowCommand) → text_command (λ rows. rows) (parsed text) lines s ≡ Ok c → is_name (table_in c) ≡ true
asked_named text lines s c is = go (parsed text) refl is
  where
    go : (r : Result Ast ℕ) → parsed text ≡ r → text_command (λ rows. rows) r lines s ≡ Ok c → is_name (table_in c) ≡ true
    go (Ok a) read e = command_named a lines s c (text_named text a read) e
    go (Err byte) read e = absurd cc

-- the table that is told of a statement whose command was accepted
pub accepted_named : (x : Statement) (before : RowDatabase) (what : Detail) → Accepted x before what → is_name (told_table what) ≡ true
accepted_named x before what accepted =
    rw (accepted.told, told_in before accepted.command) (asked_named x.text x.lines before accepted.command accepted.is)

-- the table of an entry of a legal history
pub entry_named : (s : Script) (max : ℕ) (known : Type 0) (history : List Entry) (replies : List (List Reply)) → Legal s max known history replies
    → (n : ℕ) (e : Entry) → entry_at history n ≡ Some e → is_name (told_table e.what) ≡ true
entry_named s max known history replies legal n e at =
    let had = legal.parts.entries n e at in
    accepted_named had.0 _ e.what (legal.parts.steps n e had.0 at had.1 had.2)
