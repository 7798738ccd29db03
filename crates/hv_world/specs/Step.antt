-- What one step makes of a statement. This project's own.
use Rattle.std.specs.Prelude.{◌≡◌, ◌⊎◌, ℕ, ◌<◌, Bool, List, Some, None}
use Rattle.hv_view.specs.View.{Viewed}
use Rattle.hv_model.specs.declared.script.Statement.{Statement}
use Rattle.hv_model.specs.declared.reply.Reply.{Reply}
use Rattle.hv_model.specs.declared.reply.Reply.TheVariants.{Failed}
use Rattle.hv_model.specs.declared.reply.Failure.TheVariants.{Memory}
use Rattle.hv_model.specs.Settled.{Settles}
use Rattle.hv_catalogue.specs.Holding.{Holding}
use Rattle.hv_world.specs.declared.stage.Look.{Look}
use Rattle.hv_world.specs.declared.stage.Stage.{Stage}
use Rattle.hv_world.specs.declared.stage.Step.{Step}
use Rattle.hv_world.specs.declared.stage.Step.TheVariants.{Goes, Answered}
use Rattle.hv_world.specs.Stored.{database_of, AreFiles}
use Rattle.hv_world.specs.Known.{DatabaseIsKnown}
use Rattle.hv_world.specs.Reads.{PortSeen, ReadsOn, GoesOn}
use Rattle.hv_world.specs.Damage.{RepliedBy}
use Rattle.hv_world.specs.Answer.{AllWell}
use Rattle.hv_world.specs.Stage.{IsStaged, left_of, look_of, basis}

-- it goes on: the catalogue is as before, no read and no write failed and each page that landed serves, and fewer steps are left. What it read of the
-- catalogue is what it had, or what the catalogue holds now
pub record GoesTo {File : Type 0} (tells : Bool) (pages : File → List (List ℕ)) (x : Statement) (before after : Holding (Viewed File)) (stage next : Stage File) (port new : PortSeen File) : Type 0 where
  pub same : after ≡ before
  pub staged : IsStaged tells pages x before next new
  pub well : AllWell (basis before (look_of stage)) port new
  pub reads : ReadsOn port.reading new.reading
  pub looks : (look_of next ≡ look_of stage) ⊎ ((look : Look File) × (look_of next ≡ Some look) × (look.held.value ≡ before))
  pub begun : (look : Look File) × (look_of next ≡ Some look)
  pub fewer : left_of next < left_of stage

-- a reply over what the catalogue held at some length, and holds behind it: it owes what an answer at once owes, and stands on what the port did
pub record AnswersOver {File : Type 0} (tells : Bool) (x : Statement) (held new_held : Holding (Viewed File)) (port new : PortSeen File) (r : Reply) : Type 0 where
  pub settles : (max : ℕ) → Settles x max (DatabaseIsKnown tells (database_of held) new.reading.landings) (database_of held) held.history r (database_of new_held) new_held.history
  pub cause : (files : List File) → AreFiles held files → RepliedBy tells (database_of held) files port new r

-- a reply over what the statement last read of the catalogue, which is as before
pub record AnswersThen {File : Type 0} (tells : Bool) (x : Statement) (stage : Stage File) (before after : Holding (Viewed File)) (port new : PortSeen File) (r : Reply) : Type 0 where
  pub same : after ≡ before
  pub look : Look File
  pub looked : look_of stage ≡ Some look
  pub over : AnswersOver tells x look.held.value look.held.value port new r

-- memory was wanting before it read anything: the reply tells the least number that its session may tell
pub record NeverLooked {File : Type 0} (floor : ℕ) (stage : Stage File) (before after : Holding (Viewed File)) (port new : PortSeen File) (r : Reply) : Type 0 where
  pub same : after ≡ before
  pub none : look_of stage ≡ None
  pub is : r ≡ Failed floor Memory
  pub port_is : new ≡ port

-- what one step makes of a statement at a stage: it goes on; or it is answered, at the present length, at the length that it last read, or before it read any;
-- then its port is idle
abbrev pub IsStep : {File : Type 0} → Bool → (File → List (List ℕ)) → Statement → ℕ → Holding (Viewed File) → Holding (Viewed File) → Stage File → PortSeen File → PortSeen File → Step File → Type 0
IsStep tells pages x floor before after stage port new (Goes next) = GoesTo tells pages x before after stage next port new
IsStep tells pages x floor before after stage port new (Answered r) =
    GoesOn port new × (AnswersOver tells x before after port new r ⊎ (AnswersThen tells x stage before after port new r ⊎ NeverLooked floor stage before after port new r))
