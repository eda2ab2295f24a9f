-- What a fault of a layer is to the layer above.
use Rattle.store_api.specs.declared.fault.PageFault.{PageFault}
use Rattle.store_api.specs.declared.fault.PageFault.TheVariants as page
use Rattle.store_api.specs.declared.fault.StoreFault.{StoreFault}
use Rattle.store_api.specs.declared.fault.StoreFault.TheVariants as store

-- the same fault, of a whole database
abbrev pub store_fault_of : PageFault → StoreFault
store_fault_of page.Device = store.Device
store_fault_of page.Memory = store.Memory
