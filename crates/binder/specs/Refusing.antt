-- What a refusal says.
use Rattle.std.specs.Prelude.{◌≡◌, List, Some, Result, Ok, Err, option_map}
use Rattle.mdc_ast.specs.declared.bound.Bound.{Bound}
use Rattle.statement_meaning.specs.Cause.{Cause, refusal_of}
use Rattle.binder.specs.declared.binding.BindFault.{BindFault}
use Rattle.binder.specs.declared.binding.BindFault.TheVariants as fault
use Rattle.binder.specs.Saying.{first_of}

-- a refusal is the one for the first of these causes
abbrev pub IsRefusedFor : List Cause → Result Bound BindFault → Type 0
IsRefusedFor causes (Ok bound) = Unit {0}
IsRefusedFor causes (Err (fault.Refused refusal)) = option_map refusal_of (first_of causes) ≡ Some refusal
IsRefusedFor causes (Err fault.Memory) = Unit {0}
