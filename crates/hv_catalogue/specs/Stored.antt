-- How a catalogue's tables are kept. This project's own.
use Rattle.std.specs.Prelude.{ℕ, List, length, map}
use Rattle.hv_model.specs.declared.catalogue.Chunk.{Chunk}
use Rattle.hv_model.specs.declared.catalogue.Table.{Table}
use Rattle.hv_model.specs.declared.catalogue.Entry.{Entry}
use Rattle.hv_catalogue.specs.declared.stored.Stored.{Stored}
use Rattle.hv_catalogue.specs.Holding.{Holding}

-- a chunk that is kept by its number
abbrev pub chunk_of : {C : Type 0} → ℕ × C → Chunk C
chunk_of entry = record { number = entry.0; content = entry.1 }

-- a table that is kept by its name
abbrev pub table_of : {C : Type 0} → List ℕ × Stored C → Table C
table_of entry = record { name = entry.0; schema = entry.1.schema; chunks = map chunk_of entry.1.chunks.entries }

-- tables that are kept by their names
abbrev pub tables_of : {C : Type 0} → List (List ℕ × Stored C) → List (Table C)
tables_of entries = map table_of entries

-- what a catalogue with these tables and entries holds, which made so many chunks
abbrev pub holding_of : {C : Type 0} → List (List ℕ × Stored C) → ℕ → List Entry → Holding C
holding_of entries made history = record { database = record { tables = tables_of entries; made = made; length = length history }; history = history }
