-- What the reading of the rules gives is what the grammar says.
use Rattle.std.proofs.Common.{ℕ, List, sym, ◌∙◌, ap}
use Rattle.std.specs.Prelude.{Result, Ok, Err, IfOk, IfErr}
use Rattle.hv_model.specs.declared.lexeme.Lexeme.{Lexeme}
use Rattle.hv_model.specs.declared.tree.Ast.{Ast}
use Rattle.hv_sql.specs.declared.parsing.SqlFault.{SqlFault}
use Rattle.hv_sql.specs.declared.parsing.SqlFault.TheVariants.{Syntax, Memory}
use Rattle.hv_model.specs.Fault.{IsStatement, IsSyntaxFault, place_of}
use Rattle.hv_model.specs.SqlReading.{tree_at}
use Rattle.hv_model.specs.Parsed.{placed}
use Rattle.hv_sql.specs.Answer.{Answers, Reads, IsTree, IsSyntax, Explains}
use Rattle.hv_sql.proofs.OneReading.{trees_sound, trees_complete, faults_sound, faults_complete, ok_is, err_is, not_both}

pub answer_found : (r : Result Ast SqlFault) (end : ℕ) (lexemes : List Lexeme) → Answers r end (tree_at lexemes) → IfOk r (λ a. IsStatement lexemes a)
answer_found (Ok a) end lexemes h = trees_sound lexemes a h
answer_found (Err e) end lexemes h = tt

pub answer_only : (r : Result Ast SqlFault) (end : ℕ) (lexemes : List Lexeme) → Answers r end (tree_at lexemes) → (a : Ast) → IsStatement lexemes a → IsTree r a
answer_only (Ok b) end lexemes h a s = ok_is b a (sym h ∙ trees_complete lexemes a s)
answer_only (Err (Syntax byte)) end lexemes h a s = not_both a h.0 (sym (trees_complete lexemes a s) ∙ h.1)
answer_only (Err Memory) end lexemes h a s = tt

pub answer_told : (r : Result Ast SqlFault) (end : ℕ) (lexemes : List Lexeme) → Answers r end (tree_at lexemes) → (at : List Lexeme) → IsSyntaxFault lexemes at → IsSyntax r (place_of at end)
answer_told (Ok b) end lexemes h at f = not_both b at (sym h ∙ faults_complete lexemes at f)
answer_told (Err (Syntax byte)) end lexemes h at f = h.2 ∙ ap (λ z. place_of z end) (err_is h.0 at (sym h.1 ∙ faults_complete lexemes at f))
answer_told (Err Memory) end lexemes h at f = tt

pub answer_fault : (r : Result Ast SqlFault) (end : ℕ) (lexemes : List Lexeme) → Answers r end (tree_at lexemes) → IfErr r (λ e. Explains lexemes end e)
answer_fault (Ok b) end lexemes h = tt
answer_fault (Err (Syntax byte)) end lexemes h = (h.0, faults_sound lexemes h.0 h.1, h.2)
answer_fault (Err Memory) end lexemes h = tt

pub answer_read : (r : Result Ast SqlFault) (end : ℕ) (read : Result Ast (List Lexeme)) → Answers r end read → Reads r (placed end read)
answer_read (Ok a) end read h = ap (placed end) h
answer_read (Err (Syntax byte)) end read h = ap (placed end) h.1 ∙ ap (λ z. Err z) (sym h.2)
answer_read (Err Memory) end read h = tt
