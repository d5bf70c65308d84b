-- Each table by one test of the whole: power-list and log-list.
use Rattle.gf256.proofs.Entries.{power_list, log_list}
use Rattle.gf256.proofs.FieldLaws.{power-list, log-list}
use Rattle.gf256.proofs.Field.new.Goals as goal

pub invariant_of-result : goal.invariant_of-result
unfolding power_list log_list
invariant_of-result c = record { raised = power-list; logged = log-list }
