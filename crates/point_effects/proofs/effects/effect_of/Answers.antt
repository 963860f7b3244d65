-- The checks have seen to the numbers of an accepted call.
use Rattle.basics.proofs.Basics.{arith}
use Rattle.point_effects.proofs.Accepted.{today_fits, enrol_fits, service_fits, default_fits, request_fits}
use Rattle.point_effects.proofs.Accepted.{reading_fits, change_fits, suspend_fits}
use Rattle.point_effects.proofs.effects.effect_of.Goals as goal

pub enrol-requires : goal.enrol-requires
enrol-requires c = enrol_fits _ _ _ _ (rw c.in-Enrol.is at c.requires)

pub overflow_cast-supplier : goal.overflow_cast-supplier
overflow_cast-supplier c = omega (arith, (service_fits _ _ _ _ _ (rw c.in-IntoService.is at c.requires)).0)

pub served-requires : goal.served-requires
served-requires c = (service_fits _ _ _ _ _ (rw c.in-IntoService.is at c.requires)).1

pub overflow_add-end : goal.overflow_add-end
overflow_add-end c = omega (arith, today_fits _ _ _ _ c.requires)

pub served-requires-in-DefaultSupply : goal.served-requires-in-DefaultSupply
served-requires-in-DefaultSupply c = default_fits _ _ _ _ (rw c.in-DefaultSupply.is at c.requires)

pub request-requires : goal.request-requires
request-requires c = request_fits _ _ _ _ _ _ (rw c.in-Request.is at c.requires)

pub overflow_cast-now : goal.overflow_cast-now
overflow_cast-now c = omega (arith, (reading_fits _ _ _ _ _ _ (rw c.in-Reading.is at c.requires)).calendar)

pub read-requires : goal.read-requires
read-requires c = let k = reading_fits _ _ _ _ _ _ (rw c.in-Reading.is at c.requires) in (k.index, k.mark)

pub fitted-requires : goal.fitted-requires
fitted-requires c = (change_fits _ _ _ _ _ _ (rw c.in-MeterChange.is at c.requires)).1

pub read-requires-in-MeterChange : goal.read-requires-in-MeterChange
read-requires-in-MeterChange c = let k = change_fits _ _ _ _ _ _ (rw c.in-MeterChange.is at c.requires) in (k.0.index, k.0.mark)

pub overflow_cast-result : goal.overflow_cast-result
overflow_cast-result c = omega (arith, suspend_fits _ _ _ _ (rw c.in-Suspend.is at c.requires))
