-- A `&` to a `Shut` holds what it knows, which can be had twice. Assumes `Logic`.
use base.Logic.{snd∗}
use base.Before.{before}
use types.Logic.{sem}
use denote.Builtin.{unit}
use denote.Param.Shared.{copy_shared}
use denote.Struct.Laws.{field_copy}
use denote.Struct.Lending.{of_Lends}
use Rattle.std.specs.contracts.marker.PhantomData as marker
use Rattle.logbook.proofs.Fields.{lends_twice}
use Rattle.version_words.specs.Shuts.{shut_owns}
use Rattle.version_words.specs.contracts.shut_right.Shut as C
use Rattle.version_words.proofs.Shutting.{shut_twice}
use Rattle.version_words.proofs.shut_right.Shut.TheLaw.Statement.{statement}

pub shares : statement
shares = of_Lends C.struct (C.the_codes (marker.the_row unit).coded) C.the_heap C.the_lent
    (λ d p. record { contraction = λ M 𝓤 𝓛 κ. shut_twice 𝓛 d.book d.board d.key; mono = λ M 𝓤 𝓛 κ' κ. snd∗ 𝓤 (sem 𝓛 (before κ' κ)) (sem 𝓛 (shut_owns d.book d.board d.key)) })
    (copy_shared (marker.the_field unit) (field_copy (marker.the_type unit) tt), tt)
    (λ M 𝓤 𝓛 d p. lends_twice 𝓛 (shut_owns d.book d.board d.key) (shut_twice 𝓛 d.book d.board d.key) C.the_row.lives)
