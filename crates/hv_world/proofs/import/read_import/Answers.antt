-- the rows are read under the schema of the table that stands
use Rattle.std.proofs.Common.{◌≡◌, ◌≤◌, Ok, Err, length, refl, sym, ap, subst, ◌∙◌}
use Rattle.hv_import.specs.Job.{Importing}
use Rattle.hv_model.specs.Import.{rows_of}
use Rattle.hv_model.specs.declared.reply.Reply.TheVariants.{Refused}
use Rattle.hv_model.specs.declared.reply.Refusal.TheVariants as refusal
use Rattle.hv_import.specs.Rows.{IsRowsFault}
use Rattle.hv_import.specs.declared.rows.RowsFault.TheVariants as fault
use Rattle.hv_catalogue.specs.Holding.{Holding}
use Rattle.hv_view.specs.View.{Viewed}
use Rattle.hv_world.specs.Stored.{database_of, IsSound}
use Rattle.hv_world.specs.declared.stage.Stage.TheVariants as stage
use Rattle.hv_world.proofs.Refusing.{settles_early}
use Rattle.hv_world.proofs.Carrying.{early_rows}
use Rattle.hv_world.proofs.Importing.{answers_now, wants_now, rows_read}
use Rattle.hv_world.proofs.import.read_import.Goals as goal

pub returns-in-Ok-new : goal.returns-in-Ok-new
returns-in-Ok-new g c = record {
  step = λ floor port up.
      let tells = g.F.PageFile.tells in
      let pages = g.F.PageFile.pages in
      let x = c.args.statement.now in
      let held = c.args.catalogue.now in
      let t = c.in-Some.ensures.0 in
      let look = c.look_at-now.result in
      let job = c.in-Ok-new.job in
      let schema : job.schema ≡ t.schema = ap (λ (j : Importing). j.schema) c.in-Ok-new.ensures ∙ c.in-Ok.ensures.schema ∙ c.in-Some.ensures.2 in
      let rows : job.rows ≡ c.in-Ok.rows.rows = ap (λ (j : Importing). j.rows) c.in-Ok-new.ensures in
      let spelled : rows_of t.schema x.lines ≡ Ok job.rows = (λ j. rows_of (sym c.in-Some.ensures.2 j) (sym c.as_slice.ensures j)) ∙ c.in-Ok.ensures.rows ∙ ap (λ rs. Ok rs) (sym rows) in
      rows_read tells pages x floor held c.args.table c.args.look look job port up
      (record {
        at_is = c.look_at-now.ensures.at ∙ ap (λ (h : Holding (Viewed _)). length h.history) (sym c.look_at-now.ensures.held);
        sound = subst (λ (h : Holding (Viewed _)). IsSound tells pages h) (sym c.look_at-now.ensures.held) c.requires.sound;
      })
      c.look_at-now.ensures.held
      (record { table = t; named = c.in-Some.ensures.1; schema_is = sym schema })
      (subst (λ s. rows_of s x.lines ≡ Ok job.rows) (sym schema) spelled)
      (subst (λ rs. length rs ≤ 1000000) (sym rows) c.in-Ok.ensures.few)
      (ap (λ (j : Importing). j.pages) c.in-Ok-new.ensures)
      (ap (λ (j : Importing). j.over) c.in-Ok-new.ensures);
}

pub returns-in-Ok : goal.returns-in-Ok
returns-in-Ok g c = record {
  step = λ floor port up. rw c.failed-in-Err.ensures (wants_now g.F.PageFile.tells g.F.PageFile.pages c.args.statement.now floor c.args.catalogue.now (stage.Rows c.args.table c.args.look) port c.look_at-now.result.at up.idle c.look_at-now.ensures.at);
}

pub returns-in-Err-BadRow : goal.returns-in-Err-BadRow
returns-in-Err-BadRow g c = record {
  step = λ floor port up.
      let x = c.args.statement.now in
      let held = c.args.catalogue.now in
      let t = c.in-Some.ensures.0 in
      let why : IsRowsFault (rows_of c.in-Some.schema.now c.as_slice.result.now) (fault.BadRow c.in-Err-BadRow.row c.in-Err-BadRow.column) =
      subst (λ f. IsRowsFault (rows_of c.in-Some.schema.now c.as_slice.result.now) f) c.in-Err-BadRow.field-0-is c.in-Err-BadRow.ensures.fault in
      let fails : rows_of t.schema x.lines ≡ Err (refusal.BadRow c.in-Err-BadRow.row c.in-Err-BadRow.column) = (λ j. rows_of (sym c.in-Some.ensures.2 j) (sym c.as_slice.ensures j)) ∙ why in
      let told : c.refused.result ≡ Refused (length held.history) (refusal.BadRow c.in-Err-BadRow.row c.in-Err-BadRow.column) =
      c.refused.ensures ∙ (λ j. Refused (length held.history) (refusal.BadRow (c.in-Err-BadRow.row-is j) (c.in-Err-BadRow.column-is j))) in
      rw told (answers_now g.F.PageFile.tells g.F.PageFile.pages x floor held (stage.Rows c.args.table c.args.look) port _ up.idle tt
      (λ max. settles_early x max _ (database_of held) held.history _ _ refl (early_rows x held c.args.table up.imports.0 t _ up.imports.1 c.in-Some.ensures.1 fails)));
}

pub returns-in-Err-LongRow : goal.returns-in-Err-LongRow
returns-in-Err-LongRow g c = record {
  step = λ floor port up.
      let x = c.args.statement.now in
      let held = c.args.catalogue.now in
      let t = c.in-Some.ensures.0 in
      let why : IsRowsFault (rows_of c.in-Some.schema.now c.as_slice.result.now) (fault.LongRow c.in-Err-LongRow.row) =
      subst (λ f. IsRowsFault (rows_of c.in-Some.schema.now c.as_slice.result.now) f) c.in-Err-LongRow.field-0-is c.in-Err-LongRow.ensures.fault in
      let fails : rows_of t.schema x.lines ≡ Err (refusal.LongRow c.in-Err-LongRow.row) = (λ j. rows_of (sym c.in-Some.ensures.2 j) (sym c.as_slice.ensures j)) ∙ why in
      let told : c.refused-in-Err-LongRow.result ≡ Refused (length held.history) (refusal.LongRow c.in-Err-LongRow.row) =
      c.refused-in-Err-LongRow.ensures ∙ (λ j. Refused (length held.history) (refusal.LongRow (c.in-Err-LongRow.row-is j))) in
      rw told (answers_now g.F.PageFile.tells g.F.PageFile.pages x floor held (stage.Rows c.args.table c.args.look) port _ up.idle tt
      (λ max. settles_early x max _ (database_of held) held.history _ _ refl (early_rows x held c.args.table up.imports.0 t _ up.imports.1 c.in-Some.ensures.1 fails)));
}

pub returns : goal.returns
returns g c = record {
  step = λ floor port up. rw c.failed-in-Err-Memory.ensures (wants_now g.F.PageFile.tells g.F.PageFile.pages c.args.statement.now floor c.args.catalogue.now (stage.Rows c.args.table c.args.look) port c.look_at-now.result.at up.idle c.look_at-now.ensures.at);
}
