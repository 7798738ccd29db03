-- the first columns have their values
use Rattle.csv.specs.Records.{fields_of}
use Rattle.hv_import.proofs.Values.{IsSpelt}
use Rattle.hv_import.proofs.fields.spell_record.Given as goal

abbrev pub invariant-loop-at : goal.invariant-loop-at
invariant-loop-at l = IsSpelt l.columns (fields_of l.«record») l.at l.out.items
