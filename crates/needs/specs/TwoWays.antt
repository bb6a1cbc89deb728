-- What a set that is kept twice means.
use Rattle.needs.specs.Pairs.{Pairs}
use Rattle.needs.specs.declared.two_way.TwoWay.{TwoWay}

-- the set, which is that of the first half
abbrev pub pairs : {P : Type 0} {d : _} → TwoWay P d → Pairs
pairs {d = d} s = d.has s.by_task
