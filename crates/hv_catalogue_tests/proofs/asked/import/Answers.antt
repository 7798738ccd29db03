-- the chunk is built under the schema of its table
use Rattle.std.proofs.Common.{◌≡◌, List, sym, subst}
use Rattle.hv_row.specs.declared.schema.Column.{Column}
use Rattle.hv_view.specs.View.{Viewed, IsBuilt}
use Rattle.hv_catalogue_tests.proofs.asked.import.Goals as goal

pub apply-requires : goal.apply-requires
apply-requires g c = record {
  built = λ t is. (let same : c.expect-chunk.result ≡ c.chunk_of-chunk.result = rw c.expect-chunk.ensures at c.new.ensures in
      let under = subst (λ (schema : List Column). IsBuilt g.P.File.PageFile.tells g.P.File.PageFile.pages schema c.chunk_of-chunk.result.rows c.chunk_of-chunk.result) (c.schema_in-schema.ensures t is) c.chunk_of-chunk.ensures.built in
      subst (λ (chunk : Viewed _). IsBuilt g.P.File.PageFile.tells g.P.File.PageFile.pages t.schema chunk.rows chunk) (sym same) under);
}
