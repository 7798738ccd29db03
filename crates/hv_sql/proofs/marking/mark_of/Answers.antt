-- Each way out is one form that the lexemes have.
use Rattle.std.proofs.Common.{◌∷◌, length, sym, ◌∙◌, ap}
use Rattle.std.proofs.lemmas.Bool.{false≢true}
use Rattle.hv_model.specs.Script.{has_reply}
use Rattle.hv_sql.specs.Next.{lexeme_seen}
use Rattle.hv_sql.proofs.Marks.{tree_read, session_tree, barrier_tree, empty_replied, unnamed_replied, unended_replied, other_replied}
use Rattle.hv_sql.proofs.marking.mark_of.Goals.{else-is_of_kind-2-via-then-is_of_kind-2+else-is_empty, else-is_of_kind-2-via-else-is_of_kind-2}
use Rattle.hv_sql.proofs.marking.mark_of.Goals as goal

pub returns-in_err-first : goal.returns-in_err-first
returns-in_err-first c =
    let end = length c.args.text.now in
    rw c.from_residual.ensures (ap (λ z. has_reply (tree_read end z)) (sym c.new.ensures ∙ c.in_err-first.ensures) ∙ empty_replied end)

pub returns-in_err-last_name : goal.returns-in_err-last_name
returns-in_err-last_name c =
    let end = length c.args.text.now in
    let t = lexeme_seen c.in_ok-first.first in
    let is = sym c.new.ensures ∙ c.in_ok-first.ensures in
    let started = sym c.is_of_kind.ensures ∙ c.if-is_of_kind.true in
    rw c.from_residual-in_err-last_name.ensures
    (ap (λ z. has_reply (tree_read end z)) is ∙ unnamed_replied end t c.in_ok-first.rest started (c.in_err-last_name.ensures))

pub returns-then-is_of_kind : goal.returns-then-is_of_kind
returns-then-is_of_kind c =
    let end = length c.args.text.now in
    let t = lexeme_seen c.in_ok-first.first in
    let is = sym c.new.ensures ∙ c.in_ok-first.ensures in
    let started = sym c.is_of_kind.ensures ∙ c.if-is_of_kind.true in
    let named = c.in_ok-last_name.ensures in
    (named.0, ap (λ z. tree_read end z) is ∙ session_tree end t c.in_ok-first.rest _ started named.1)

pub returns-then-is_empty : goal.returns-then-is_empty
returns-then-is_empty c =
    let end = length c.args.text.now in
    let t = lexeme_seen c.in_ok-first.first in
    let is = sym c.new.ensures ∙ c.in_ok-first.ensures in
    let started = sym c.is_of_kind-2.ensures ∙ c.if-is_of_kind-2.true in
    let alone = c.is_empty.ensures.0 c.if-is_empty.true in
    ap (λ z. tree_read end z) (is ∙ ap (λ z. t ∷ z) alone) ∙ barrier_tree end t started

pub returns : goal.returns
returns c =
    let end = length c.args.text.now in
    let t = lexeme_seen c.in_ok-first.first in
    let rest = c.in_ok-first.rest in
    let is = sym c.new.ensures ∙ c.in_ok-first.ensures in
    let other = sym c.is_of_kind.ensures ∙ c.if-is_of_kind.false in
    ap (λ z. has_reply (tree_read end z)) is ∙ elim c.else-is_of_kind-2.branch [
      | else-is_of_kind-2-via-then-is_of_kind-2+else-is_empty w ↦ unended_replied end t rest other (λ e. false≢true (sym w.if-is_empty.false ∙ w.is_empty.ensures.1 e))
      | else-is_of_kind-2-via-else-is_of_kind-2 w ↦ other_replied end t rest other (sym c.is_of_kind-2.ensures ∙ w.if-is_of_kind-2.false)
    ]
