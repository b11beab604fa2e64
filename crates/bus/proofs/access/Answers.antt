use Rattle.bus.proofs.Laws.{reaches}
use Rattle.bus.proofs.access.Goals as goal

pub write-requires : goal.write-requires
write-requires c = reaches _ _ _ _ _ c.walk-place.ensures c.register_in-r.ensures c.offset_in-offset.ensures

pub read-requires : goal.read-requires
read-requires c = reaches _ _ _ _ _ c.walk-place.ensures c.register_in-r.ensures c.offset_in-offset.ensures
