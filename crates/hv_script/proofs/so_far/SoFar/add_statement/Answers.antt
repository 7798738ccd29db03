-- The session has one more statement.
use Rattle.std.proofs.Common.{◌≡◌, ◌≤◌, ◌+◌, ◌++◌, ◌∷◌, [], refl, ap, ◌∙◌, arith, set}
use Rattle.hv_model.specs.Script.{count_read}
use Rattle.hv_script.specs.declared.so_far.Member.{Member}
use Rattle.hv_script.specs.SoFar.{placed_of}
use Rattle.hv_script.proofs.SoFar.{present_member, added_stands, is_next, few_read}
use Rattle.hv_script.proofs.so_far.SoFar.add_statement.Goals as goal

pub overflow_add-member : goal.overflow_add-member
overflow_add-member c =
    let s = placed_of c.args.self.now in
    let count : c.index_mut-member.result.now.count ≡ count_read s s.current = ap (λ (m : Member). m.count) (present_member c.args.self.now _ _ c.requires.kept c.index_mut-member.ensures.value) in
    let few : count_read s s.current ≤ 1000000 = few_read s s.current c.requires.kept.within in
    omega arith

pub returns : goal.returns
returns c =
    let it = c.args.self.now in
    let s = placed_of it in
    let present = present_member it _ _ c.requires.kept c.index_mut-member.ensures.value in
    let next = is_next s (record { text = c.args.text.now; lines = c.args.lines.now }) _
    (c.in_ok-copy.ensures ∙ ap (λ (m : Member). m.name) present) (ap (λ (m : Member). m.count + 1) present) c.in_ok-owned.ensures c.in_ok-owned-2.ensures in
    added_stands it _ _ c.requires.kept c.requires.read c.if-self-eq-MAX_STATEMENTS.false refl
    (ap (λ (m : Member). set it.members.items it.at (record { name = m.name; count = m.count + 1 })) present) refl refl
    (c.in_ok-push.ensures.ok ∙ ap (λ x. it.phase ++ x ∷ []) next) refl
