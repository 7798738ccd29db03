-- what the catalogue made of the command is told in the reply
use Rattle.std.proofs.Common.{subst}
use Rattle.hv_catalogue.specs.Holding.{IsUnapplied, meant}
use Rattle.hv_catalogue.specs.declared.command.ApplyFault.TheVariants as unapplied
use Rattle.hv_world.proofs.Carrying.{unapplied_cause, unapplied_table}
use Rattle.hv_world.proofs.command.carry_out.Goals as goal

pub returns-in-Ok-clause-sound : goal.returns-in-Ok-clause-sound
returns-in-Ok-clause-sound g c = c.apply.ensures.built c.requires.sound

pub returns-in-Err-NoTable-clause-sound : goal.returns-in-Err-NoTable-clause-sound
returns-in-Err-NoTable-clause-sound g c = c.apply.ensures.built c.requires.sound

pub returns-in-Err-Refused-clause-sound : goal.returns-in-Err-Refused-clause-sound
returns-in-Err-Refused-clause-sound g c = c.apply.ensures.built c.requires.sound

pub returns-clause-sound : goal.returns-clause-sound
returns-clause-sound g c = c.apply.ensures.built c.requires.sound

pub returns-in-Ok-clause-carried : goal.returns-in-Ok-clause-carried
returns-in-Ok-clause-carried g c = (c.in-Ok.ensures.applied, c.requires.told c.apply.new.self.database c.in-Ok.ensures.applied.steps)

pub returns-in-Err-NoTable-clause-carried : goal.returns-in-Err-NoTable-clause-carried
returns-in-Err-NoTable-clause-carried g c =
    let held = c.args.catalogue.now in
    let un : IsUnapplied held (meant c.args.command) (unapplied.NoTable c.in-Err-NoTable.at) =
    subst (λ fault. IsUnapplied held (meant c.args.command) fault) c.in-Err-NoTable.field-0-is c.in-Err-NoTable.ensures.cause in
    (c.in-Err-NoTable.ensures.unchanged, un.1, unapplied_table c.args.byte held (meant c.args.command) c.in-Err-NoTable.at un)

pub returns-in-Err-Refused-clause-carried : goal.returns-in-Err-Refused-clause-carried
returns-in-Err-Refused-clause-carried g c =
    let held = c.args.catalogue.now in
    let un : IsUnapplied held (meant c.args.command) (unapplied.Refused c.in-Err-Refused.at c.in-Err-Refused.cause) =
    subst (λ fault. IsUnapplied held (meant c.args.command) fault) c.in-Err-Refused.field-0-is c.in-Err-Refused.ensures.cause in
    (c.in-Err-Refused.ensures.unchanged, un.4, unapplied_cause c.args.byte held (meant c.args.command) c.in-Err-Refused.at c.in-Err-Refused.cause un)
