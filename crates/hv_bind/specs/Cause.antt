-- Why a select has no bound query.
use Rattle.std.specs.Prelude.{◌≡◌, ⊤, Option, Some}
use Rattle.hv_model.specs.declared.reply.Refusal.{Refusal}
use Rattle.hv_bind.specs.declared.binding.BindFault.{BindFault}
use Rattle.hv_bind.specs.declared.binding.BindFault.TheVariants.{Refused, Memory}

-- a refusal is the first that stands; want of memory has no cause
abbrev pub IsFirstRefusal : Option Refusal → BindFault → Type 0
IsFirstRefusal first (Refused r) = first ≡ Some r
IsFirstRefusal first Memory = ⊤
