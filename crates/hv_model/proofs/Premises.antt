-- A premise from which the premise of known content follows may stand in its place.
use Rattle.std.specs.Prelude.{ℕ, ◌+◌, List}
use Rattle.hv_model.specs.Database.{RowDatabase}
use Rattle.hv_model.specs.declared.script.Statement.{Statement}
use Rattle.hv_model.specs.declared.script.Script.{Script}
use Rattle.hv_model.specs.declared.catalogue.Entry.{Entry}
use Rattle.hv_model.specs.declared.reply.Reply.{Reply}
use Rattle.hv_model.specs.declared.reply.Reply.TheVariants.{Done, Rows, Refused, Failed}
use Rattle.hv_model.specs.declared.reply.Refusal.{Refusal}
use Rattle.hv_model.specs.declared.query.Cell.{Cell}
use Rattle.hv_model.specs.Command.{database_after}
use Rattle.hv_model.specs.Legal.{done_before, Answered, IsRefusedFor, LegalUpTo, Legal}
use Rattle.hv_model.specs.Sessions.{LegalInPhase, upper_in_phase, IsTold, SessionSoFar}
use Rattle.hv_model.specs.Settled.{Settles}

-- an answer
pub answered_under : (k j : Type 0) → (k → j) → (x : Statement) (s : RowDatabase) (max : ℕ) (rows : List (List Cell)) → Answered x s max j rows → Answered x s max k rows
answered_under k j follows x s max rows answered = record {
  query = answered.query;
  is = answered.is;
  early = answered.early;
  allowed = (λ known. answered.allowed (follows known));
  answer = (λ known. answered.answer (follows known));
}

-- a refusal
pub refused_under : (k j : Type 0) → (k → j) → (x : Statement) (s : RowDatabase) (max : ℕ) (cause : Refusal) → IsRefusedFor x s max j cause → IsRefusedFor x s max k cause
refused_under k j follows x s max cause refused = record { told = (λ known. refused.told (follows known)); cause_is = refused.cause_is }

-- what the answer to one statement owes
pub settles_under : (k j : Type 0) → (k → j) → (x : Statement) (max : ℕ) (before : RowDatabase) (history : List Entry) (r : Reply) (new : RowDatabase) (longer : List Entry)
    → Settles x max j before history r new longer → Settles x max k before history r new longer
settles_under k j follows x max before history (Done at what) new longer settles = settles
settles_under k j follows x max before history (Rows at rows) new longer settles = (settles.0, answered_under k j follows x before max rows settles.1)
settles_under k j follows x max before history (Refused at cause) new longer settles = (settles.0, refused_under k j follows x before max cause settles.1)
settles_under k j follows x max before history (Failed at cause) new longer settles = settles

-- a legal outcome so far
pub legal_up_to_under : (k j : Type 0) → (k → j) → (s : Script) (max : ℕ) (upper : ℕ → ℕ) (history : List Entry) (replies : List (List Reply))
    → LegalUpTo s max j upper history replies → LegalUpTo s max k upper history replies
legal_up_to_under k j follows s max upper history replies legal = record {
  entries = legal.entries;
  done = legal.done;
  steps = legal.steps;
  along = legal.along;
  phases = legal.phases;
  rows = (λ x n rows stands reply. answered_under k j follows x _ max rows (legal.rows x n rows stands reply));
  refused = (λ x n cause stands reply. refused_under k j follows x _ max cause (legal.refused x n cause stands reply));
  failed = legal.failed;
}

-- what holds between two answers of many sessions
pub legal_in_phase_under : (k j : Type 0) → (k → j) → (s : Script) (max : ℕ) (p : ℕ) (history : List Entry) (replies : List (List Reply))
    → LegalInPhase s max j p history replies → LegalInPhase s max k p history replies
legal_in_phase_under k j follows s max p history replies legal = record {
  answers = legal.answers;
  counted = legal.counted;
  parts = legal_up_to_under k j follows s max (upper_in_phase s p history replies) history replies legal.parts;
}

-- what a reply says, and the facts of one session
pub told_under : (k j : Type 0) → (k → j) → (s : Script) (max : ℕ) (history : List Entry) (x : Statement) (r : Reply) → IsTold s max j history x r → IsTold s max k history x r
told_under k j follows s max history x (Done n what) told = told
told_under k j follows s max history x (Rows n rows) told = answered_under k j follows x (database_after s history n) max rows told
told_under k j follows s max history x (Refused n cause) told = refused_under k j follows x (database_after s history n) max cause told
told_under k j follows s max history x (Failed n cause) told = told

pub session_under : (k j : Type 0) → (k → j) → (s : Script) (max : ℕ) (history : List Entry) (name : List ℕ) (rs : List Reply)
    → SessionSoFar s max j history name rs → SessionSoFar s max k history name rs
session_under k j follows s max history name rs facts = record {
  told = (λ x r stands session reply. told_under k j follows s max history x r (facts.told x r stands session reply));
  along = facts.along;
  reached = facts.reached;
}

-- a legal outcome
pub legal_under : (k j : Type 0) → (k → j) → (s : Script) (max : ℕ) (history : List Entry) (replies : List (List Reply)) → Legal s max j history replies → Legal s max k history replies
legal_under k j follows s max history replies legal = record {
  once = legal.once;
  parts = legal_up_to_under k j follows s max (λ p. done_before s replies (p + 1)) history replies legal.parts;
}
