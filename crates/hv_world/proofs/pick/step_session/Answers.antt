-- the step is one of the statement at the session's next place, over the floor
use Rattle.std.proofs.Common.{ℕ, ◌≡◌, List, refl, ap, subst, ◌∙◌}
use Rattle.std.specs.Prelude.{max}
use Rattle.hv_model.specs.declared.reply.Reply.{Reply}
use Rattle.hv_model.specs.declared.script.Statement.{Statement}
use Rattle.hv_model.specs.Sessions.{last_number}
use Rattle.hv_world.specs.Picks.{floor_of}
use Rattle.hv_world.specs.Reads.{port_seen}
use Rattle.hv_world.specs.Step.{IsStep}
use Rattle.hv_world.specs.declared.stage.Step.TheVariants.{Goes, Answered}
use Rattle.hv_world.proofs.Picking.{statement_is}
use Rattle.hv_world.proofs.pick.step_session.Goals as goal

pub returns-in-Goes-clause-step : goal.returns-in-Goes-clause-step
returns-in-Goes-clause-step g c x next =
    let tells = g.P.File.PageFile.tells in
    let pages = g.P.File.PageFile.pages in
    let q = c.args.session.now in
    let port = port_seen g.P.PageSink q.access.port in
    let new = port_seen g.P.PageSink c.take_step.new.access.port in
    let before = c.args.catalogue.now in
    let after = c.take_step.new.catalogue in
    let same = statement_is c.args.script.now q x next c.len.result c.index-turn.result.now c.as_slice.result.now c.index-as_slice-turn.result c.as_slice-2.result.now c.index-as_slice-turn-2.result
    (c.len.ensures ∙ q.replies.ok.0) c.index-turn.ensures c.as_slice.ensures c.index-as_slice-turn.is c.as_slice-2.ensures c.index-as_slice-turn-2.is in
    let floor : c.max-floor.result ≡ floor_of c.args.barrier q = c.max-floor.ensures ∙ ap (λ (l : ℕ). max c.args.barrier l) (c.last_number.ensures ∙ ap (λ (l : List Reply). last_number l) c.as_slice-3.ensures.value) in
    record {
      step = Goes c.in-Goes.next;
      is = subst (λ at. IsStep tells pages x (floor_of c.args.barrier q) before after at port new (Goes c.in-Goes.next)) c.replace-stage.ensures.value
          (subst (λ (f : ℕ). IsStep tells pages x f before after c.replace-stage.result port new (Goes c.in-Goes.next)) floor
          (subst (λ (y : Statement). IsStep tells pages y c.max-floor.result before after c.replace-stage.result port new (Goes c.in-Goes.next)) same c.in-Goes.ensures.step));
      becomes = (refl, refl);
      turns = refl;
      room = refl;
    }

pub returns-in-Answered-clause-step : goal.returns-in-Answered-clause-step
returns-in-Answered-clause-step g c x next =
    let tells = g.P.File.PageFile.tells in
    let pages = g.P.File.PageFile.pages in
    let q = c.args.session.now in
    let port = port_seen g.P.PageSink q.access.port in
    let new = port_seen g.P.PageSink c.take_step.new.access.port in
    let before = c.args.catalogue.now in
    let after = c.take_step.new.catalogue in
    let same = statement_is c.args.script.now q x next c.len.result c.index-turn.result.now c.as_slice.result.now c.index-as_slice-turn.result c.as_slice-2.result.now c.index-as_slice-turn-2.result
    (c.len.ensures ∙ q.replies.ok.0) c.index-turn.ensures c.as_slice.ensures c.index-as_slice-turn.is c.as_slice-2.ensures c.index-as_slice-turn-2.is in
    let floor : c.max-floor.result ≡ floor_of c.args.barrier q = c.max-floor.ensures ∙ ap (λ (l : ℕ). max c.args.barrier l) (c.last_number.ensures ∙ ap (λ (l : List Reply). last_number l) c.as_slice-3.ensures.value) in
    record {
      step = Answered c.in-Answered.reply;
      is = subst (λ at. IsStep tells pages x (floor_of c.args.barrier q) before after at port new (Answered c.in-Answered.reply)) c.replace-stage.ensures.value
          (subst (λ (f : ℕ). IsStep tells pages x f before after c.replace-stage.result port new (Answered c.in-Answered.reply)) floor
          (subst (λ (y : Statement). IsStep tells pages y c.max-floor.result before after c.replace-stage.result port new (Answered c.in-Answered.reply)) same c.in-Answered.ensures.step));
      becomes = (c.replace-stage.ensures.after, c.push_reserved.ensures.items);
      turns = refl;
      room = c.push_reserved.ensures.capacity;
    }
