-- The tokens of a text stand in it.
use Rattle.std.proofs.Common.{ℕ, List, [], ◌∷◌, length, arith}
use Rattle.hv_model.specs.declared.lexeme.Token.{Token}
use Rattle.hv_model.specs.Lexemes.{tokens_of, InOrder, EachToken}
use Rattle.hv_model.specs.Lexed.{AllStandIn}
use Rattle.hv_sql.proofs.LexingLaws.{order_le, tokens_in_order, tokens_longest}

all_stand : (text : List ℕ) (at : ℕ) (ts : List Token) → InOrder at (length text) ts → EachToken text ts → AllStandIn text ts
all_stand text at [] h e = tt
all_stand text at (t ∷ ts) h e =
    (record { order = omega (arith, h.1); within = order_le t.to (length text) ts h.2; sorted = e.0 }, all_stand text t.to ts h.2 e.3)

pub tokens_stand : (text : List ℕ) → AllStandIn text (tokens_of text)
tokens_stand text = all_stand text 0 (tokens_of text) (tokens_in_order text) (tokens_longest text)
