-- A fault that may be one of the store.
use Rattle.std.specs.Prelude.{Option, Some, None}
use Rattle.store_api.specs.declared.fault.StoreFault.{StoreFault}
use Rattle.store_api_tests.specs.declared.space.SpaceFault.{SpaceFault}
use Rattle.store_api_tests.specs.declared.space.SpaceFault.TheVariants.{Full, Store}

-- the fault of the store in it, if any
abbrev pub store_part : SpaceFault → Option StoreFault
store_part (Full cap) = None
store_part (Store fault) = Some fault
