-- A script as lists.
use Rattle.std.specs.Prelude.{List, map, vec_items}
use Rattle.grammar.specs.Machine.{Layout, SagaItems}
use Rattle.grammar.specs.declared.Site.{Site}
use Rattle.grammar.specs.declared.Saga.{Saga}

abbrev pub lists_of : Site → Layout
lists_of s = record { groups = vec_items s.groups; feeders = vec_items s.feeders; tags = vec_items s.tags }

abbrev pub items_of : Saga → SagaItems
items_of s = (s.number, vec_items s.items)

abbrev pub sagas_of : List Saga → List SagaItems
sagas_of ss = map items_of ss
