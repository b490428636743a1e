-- What a store's five slices hold, where the store is only read. Assumes nothing.
use Rattle.stores.specs.declared.store.Store.{Store}
use Rattle.stores.specs.Promise.{Slices, slices}

abbrev pub held : Store → Slices
held s = slices s.base.now s.spans.now s.edges.now s.routes.now s.times.now
