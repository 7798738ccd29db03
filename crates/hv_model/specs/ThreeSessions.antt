-- A script of three sessions and two phases, with a history and replies that are told rightly and wrongly.
use Rattle.std.specs.Prelude.{ℕ, false, List, [], ◌∷◌, codes}
use Rattle.hv_row.specs.declared.schema.Column.{Column}
use Rattle.hv_row.specs.declared.value.ColType.TheVariants as kind
use Rattle.hv_model.specs.declared.script.Statement.{Statement}
use Rattle.hv_model.specs.declared.script.Script.{Script}
use Rattle.hv_model.specs.declared.catalogue.Detail.TheVariants as detail
use Rattle.hv_model.specs.declared.catalogue.Entry.{Entry}
use Rattle.hv_model.specs.declared.reply.Reply.{Reply}
use Rattle.hv_model.specs.declared.reply.Reply.TheVariants.{Done, Refused}
use Rattle.hv_model.specs.declared.reply.Refusal.TheVariants.{Syntax, TableExists}

-- two sessions make a table of one name
abbrev pub create : Statement
create = record { session = codes "main"; number = 1; text = codes "CREATE TABLE t (a INT)"; lines = [] }

abbrev pub create_again : Statement
create_again = record { session = codes "b"; number = 1; text = codes "CREATE TABLE t (a INT)"; lines = [] }

-- behind the barrier a third one says what no statement is
abbrev pub word : Statement
word = record { session = codes "c"; number = 1; text = codes "x"; lines = [] }

abbrev pub script : Script
script = record { sessions = codes "main" ∷ codes "b" ∷ codes "c" ∷ []; phases = (create ∷ create_again ∷ []) ∷ (word ∷ []) ∷ [] }

abbrev pub schema : List Column
schema = record { name = codes "a"; kind = kind.Int; index = false; range = false } ∷ []

-- the second session is served first
abbrev pub made : Entry
made = record { session = codes "b"; number = 1; what = detail.Create (codes "t") }

abbrev pub history : List Entry
history = made ∷ []

-- the replies, where the third session tells this length
abbrev pub replies_at : ℕ → List (List Reply)
replies_at n = (Refused 1 TableExists ∷ []) ∷ (Done 1 (detail.Create (codes "t")) ∷ []) ∷ (Refused n (Syntax 0) ∷ []) ∷ []
