-- The words of the command line. This project's own.
use Rattle.std.specs.Prelude.{ℕ, suc, ◌^◌, Bool, true, false, ◌&&◌, nat_lt, List, [], ◌∷◌, length, take, drop, codes, Option, Some, None, Result, Ok, Err, if◌then◌else◌}
use Rattle.std.specs.Option.{option_map, option_and_then}
use Rattle.std.specs.Str.Parse.{digits_value}
use Rattle.hv_row.specs.Schema.{same_name}
use Rattle.hv_dev.specs.declared.device.Order.{Order}
use Rattle.hv_dev.specs.declared.device.Order.TheVariants.{Fifo, Lifo, Seed}
use Rattle.hv_model.specs.Token.{is_number}
use Rattle.hv_script.specs.declared.words.Options.{Options}
use Rattle.hv_script.specs.declared.words.Chosen.{Chosen}

-- what stands behind this front of a word
abbrev pub behind : List ℕ → List ℕ → Option (List ℕ)
behind front word = if same_name (take (length front) word) front then Some (drop (length front) word) else None

-- one decimal digit or more, with a value below 2^64
abbrev pub number_of : List ℕ → Option ℕ
number_of digits = if is_number digits && nat_lt (digits_value 10 digits) (2 ^ 64) then Some (digits_value 10 digits) else None

-- fifo, lifo or seed:N
abbrev pub order_of : List ℕ → Option Order
order_of value =
    if same_name value (codes "fifo") then Some Fifo
    else (if same_name value (codes "lifo") then Some Lifo else option_map (λ seed. Seed seed) (option_and_then number_of (behind (codes "seed:") value)))

-- before the first of the words behind `run`
abbrev pub unchosen : Chosen
unchosen = record { options = record { order = Fifo }; has_order = false }

-- with this value of `order`, which may be given once
abbrev pub with_order : Chosen → List ℕ → Option Chosen
with_order chosen value = if chosen.has_order then None else option_map (λ order. record { options = record { order = order }; has_order = true }) (order_of value)

-- with one word more: a key that wasn't given before, `=`, and one of its values
abbrev pub with_word : Chosen → List ℕ → Option Chosen
with_word chosen word = option_and_then (with_order chosen) (behind (codes "order=") word)

-- what follows from a value, or the number of the word that has none
abbrev pub or_number : {A B : Type 0} → ℕ → (A → Result B ℕ) → Option A → Result B ℕ
or_number n next (Some a) = next a
or_number n next None = Err n

-- what words choose beside those before them, where the first is number n; or the number of the first at fault
abbrev pub choose : ℕ → Chosen → List (List ℕ) → Result Options ℕ
choose n chosen [] = Ok chosen.options
choose n chosen (word ∷ words) = or_number n (λ more. choose (suc n) more words) (with_word chosen word)

-- what the words choose, read for `run`, or the number of the first at fault, counted from 1: the first is `run`
abbrev pub run_options : List (List ℕ) → Result Options ℕ
run_options [] = Err 1
run_options (word ∷ words) = if same_name word (codes "run") then choose 2 unchosen words else Err 1

-- the same for `serve`, with which no word goes yet, or for `run`
abbrev pub options : Bool → List (List ℕ) → Result Options ℕ
options true words = Err 1
options false words = run_options words

-- the most rows that meet the condition of a query of one place
abbrev pub max_of : Options → ℕ
max_of chosen = 4294967296
