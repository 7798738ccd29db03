use Rattle.std.proofs.Common.{sym, ◌∙◌}
use Rattle.hv_sql.proofs.LexingSorts.{keyword_sort, name_sort, long_sort}
use Rattle.hv_sql.proofs.lexing.run_sort.Goals as goal

pub returns-then-is_keyword : goal.returns-then-is_keyword
returns-then-is_keyword c = keyword_sort c.args.bytes.now (sym c.is_keyword.ensures ∙ c.if-is_keyword.true)

pub returns-then-bytes-le-MAX_NAME_BYTES : goal.returns-then-bytes-le-MAX_NAME_BYTES
returns-then-bytes-le-MAX_NAME_BYTES c = name_sort c.args.bytes.now (sym c.is_keyword.ensures ∙ c.if-is_keyword.false) c.requires c.if-bytes-le-MAX_NAME_BYTES.true

pub returns-else-bytes-le-MAX_NAME_BYTES : goal.returns-else-bytes-le-MAX_NAME_BYTES
returns-else-bytes-le-MAX_NAME_BYTES c = long_sort c.args.bytes.now (sym c.is_keyword.ensures ∙ c.if-is_keyword.false) c.requires c.if-bytes-le-MAX_NAME_BYTES.false
