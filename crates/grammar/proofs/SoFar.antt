-- The text of what was read before a place of the grammar.
use Rattle.std.proofs.Common.{◌≡◌, ◌+◌, ◌≤◌, cond, List, [], ◌∷◌, ◌++◌, length}
use Rattle.tokens.specs.declared.text.Token.{Token}
use Rattle.tokens.specs.declared.text.Token.TheVariants.{Word, Name, Number, Open, Close}
use Rattle.tokens.specs.declared.text.Word.TheVariants as word
use Rattle.grammar.specs.Machine.{Layout, SagaItems, State, Place, title}
use Rattle.grammar.specs.Machine as machine
use Rattle.grammar.specs.Makes.{section_tokens, tag_section_tokens, items_tokens, tokens_of}
use Rattle.grammar.specs.declared.Section.{Section}
use Rattle.grammar.specs.declared.Section.TheVariants.{Groups, Feeders}

abbrev pub ahead : Section → Layout → List Token
ahead Groups l = []
ahead Feeders l = section_tokens Groups (length l.groups) l.groups

abbrev pub pairs : Layout → List Token
pairs l = section_tokens Groups (length l.groups) l.groups ++ section_tokens Feeders (length l.feeders) l.feeders

abbrev pub in_saga : Layout → List SagaItems → machine.Open → List Token
in_saga l d o = tokens_of l d ++ Word word.Saga ∷ Number o.number ∷ Open ∷ items_tokens o.items

abbrev pub told : Layout → List SagaItems → Place → List Token
told l d (machine.heading s) = ahead s l
told l d (machine.count s) = ahead s l ++ Word (title s) ∷ []
told l d (machine.value s n cs) = ahead s l ++ section_tokens s (length cs + n) cs
told l d (machine.ceiling s n cs v) = (ahead s l ++ section_tokens s (length cs + n) cs) ++ Number v ∷ []
told l d machine.tags_heading = pairs l
told l d machine.tag_count = pairs l ++ Word word.Tags ∷ []
told l d (machine.tag_name n ts) = pairs l ++ tag_section_tokens (length ts + n) ts
told l d (machine.tag_value n ts a) = (pairs l ++ tag_section_tokens (length ts + n) ts) ++ Name a ∷ []
told l d machine.sagas = tokens_of l d
told l d machine.saga_number = tokens_of l d ++ Word word.Saga ∷ []
told l d (machine.saga_open n) = (tokens_of l d ++ Word word.Saga ∷ []) ++ Number n ∷ []
told l d (machine.items o) = in_saga l d o
told l d (machine.amount b o) = in_saga l d o ++ Word (cond b word.Return word.Claim) ∷ []
told l d (machine.of b n o) = (in_saga l d o ++ Word (cond b word.Return word.Claim) ∷ []) ++ Number n ∷ []
told l d (machine.group b n o) = ((in_saga l d o ++ Word (cond b word.Return word.Claim) ∷ []) ++ Number n ∷ []) ++ Word word.Of ∷ []
told l d (machine.move_amount o) = in_saga l d o ++ Word word.Move ∷ []
told l d (machine.move_from n o) = (in_saga l d o ++ Word word.Move ∷ []) ++ Number n ∷ []
told l d (machine.move_source n o) = ((in_saga l d o ++ Word word.Move ∷ []) ++ Number n ∷ []) ++ Word word.From ∷ []
told l d (machine.move_to n a o) = (((in_saga l d o ++ Word word.Move ∷ []) ++ Number n ∷ []) ++ Word word.From ∷ []) ++ Number a ∷ []
told l d (machine.move_target n a o) = ((((in_saga l d o ++ Word word.Move ∷ []) ++ Number n ∷ []) ++ Word word.From ∷ []) ++ Number a ∷ []) ++ Word word.To ∷ []
told l d (machine.tag b o) = in_saga l d o ++ Word (cond b word.Lift word.Hang) ∷ []
told l d (machine.try_open o) = in_saga l d o ++ Word word.Try ∷ []
told l d (machine.else_word o) = in_saga l d o ++ Close ∷ []
told l d (machine.else_open o) = (in_saga l d o ++ Close ∷ []) ++ Word word.Else ∷ []

abbrev pub sofar : State → List Token
sofar s = told s.layout s.sagas s.place

-- where a pair is wanted, one is to come, and the site comes before the sagas
abbrev pub Good : List SagaItems → Place → Type 0
Good d (machine.heading s) = d ≡ []
Good d (machine.count s) = d ≡ []
Good d (machine.value s n cs) = (1 ≤ n) × (d ≡ [])
Good d (machine.ceiling s n cs v) = (1 ≤ n) × (d ≡ [])
Good d machine.tags_heading = d ≡ []
Good d machine.tag_count = d ≡ []
Good d (machine.tag_name n ts) = (1 ≤ n) × (d ≡ [])
Good d (machine.tag_value n ts a) = (1 ≤ n) × (d ≡ [])
Good d machine.sagas = Unit {0}
Good d machine.saga_number = Unit {0}
Good d (machine.saga_open n) = Unit {0}
Good d (machine.items o) = Unit {0}
Good d (machine.amount b o) = Unit {0}
Good d (machine.of b n o) = Unit {0}
Good d (machine.group b n o) = Unit {0}
Good d (machine.move_amount o) = Unit {0}
Good d (machine.move_from n o) = Unit {0}
Good d (machine.move_source n o) = Unit {0}
Good d (machine.move_to n a o) = Unit {0}
Good d (machine.move_target n a o) = Unit {0}
Good d (machine.tag b o) = Unit {0}
Good d (machine.try_open o) = Unit {0}
Good d (machine.else_word o) = Unit {0}
Good d (machine.else_open o) = Unit {0}
