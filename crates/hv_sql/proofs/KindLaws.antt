-- Kinds are told to be one where they are, and symbols and keywords have kinds of their own.
use Rattle.std.proofs.Common.{rules, ◌≡◌, true, refl, ap, subst}
use Rattle.std.proofs.lemmas.Bool.{false≢true}
use denote.Enum.Bare.{same_true, true_same}
use Rattle.hv_model.specs.contracts.lexeme.Keyword as keyword_type
use Rattle.hv_model.specs.contracts.lexeme.Symbol as symbol_type
use Rattle.hv_model.specs.declared.lexeme.Keyword.{Keyword}
use Rattle.hv_model.specs.declared.lexeme.Symbol.{Symbol}
use Rattle.hv_model.specs.declared.lexeme.Kind.{Kind}
use Rattle.hv_model.specs.declared.lexeme.Kind.TheVariants as kinds
use Rattle.hv_model.specs.declared.lexeme.What.{What}
use Rattle.hv_model.specs.declared.lexeme.What.TheVariants as what
use Rattle.hv_model.specs.Terminals.{kind_of, same_kind, KindsCompared, KindsApart}

pub same_one : (a b : Kind) → same_kind a b ≡ true → a ≡ b
same_one kinds.Name kinds.Name e = refl
same_one kinds.Number kinds.Number e = refl
same_one kinds.Text kinds.Text e = refl
same_one kinds.Other kinds.Other e = refl
same_one (kinds.Symbol x) (kinds.Symbol y) e = ap (λ z. kinds.Symbol z) (same_true symbol_type.the_type (search rules) x y e)
same_one (kinds.Keyword x) (kinds.Keyword y) e = ap (λ z. kinds.Keyword z) (same_true keyword_type.the_type (search rules) x y e)
same_one _ _ e = absurd (false≢true e)

same_self : (a : Kind) → same_kind a a ≡ true
same_self kinds.Name = refl
same_self kinds.Number = refl
same_self kinds.Text = refl
same_self kinds.Other = refl
same_self (kinds.Symbol x) = true_same symbol_type.the_type x x refl
same_self (kinds.Keyword x) = true_same keyword_type.the_type x x refl

pub one_same : (a b : Kind) → a ≡ b → same_kind a b ≡ true
one_same a b e = subst (λ z. same_kind a z ≡ true) e (same_self a)

pub kinds_compared : KindsCompared
kinds_compared a b = (same_one a b, one_same a b)

symbol_apart : (w : What) (x : Symbol) → kind_of w ≡ kinds.Symbol x → w ≡ what.Symbol x
symbol_apart (what.Symbol y) x e = cc
symbol_apart _ x e = absurd cc

keyword_apart : (w : What) (x : Keyword) → kind_of w ≡ kinds.Keyword x → w ≡ what.Keyword x
keyword_apart (what.Keyword y) x e = cc
keyword_apart _ x e = absurd cc

pub kinds_apart : KindsApart
kinds_apart = (symbol_apart, keyword_apart)
