-- Why a query has no lines, by what wanted them.
use Rattle.store_api.specs.declared.fault.StoreFault.TheVariants.{Memory}
use Rattle.answer_text.specs.declared.fault.AnswerFault.{AnswerFault}
use Rattle.answer_text.specs.declared.fault.AnswerFault.TheVariants as answer
use Rattle.table_query.specs.declared.fault.QueryFault.{QueryFault}
use Rattle.table_query.specs.declared.fault.QueryFault.TheVariants as query

-- a sum outside BIGINT, or want of memory
abbrev pub fault_of_lines : AnswerFault → QueryFault
fault_of_lines (answer.Overflow name) = query.Overflow name
fault_of_lines answer.Memory = query.Store Memory
