-- The tables of a container's and of a QoS's fields as lists of tags: all, those that are always there, those that are there only sometimes.
use mathlib.Core.Path.{◌≡◌, refl}
use mathlib.Core.List.{[], ◌∷◌}
use Rattle.ber.specs.Table.{tags, tags_always, tags_sometimes}
use Rattle.container.specs.declared.Container.{Container}
use Rattle.container.specs.Qos.{qos_table}
use Rattle.container.specs.Container.{container_table}

pub qos_tags : tags qos_table ≡ 0x80 ∷ 0x81 ∷ 0x82 ∷ 0x83 ∷ 0x84 ∷ []
qos_tags = refl

pub qos_always : tags_always qos_table ≡ tags qos_table
qos_always = refl

-- after whatever container
module _ (b : Container) where
  pub container_tags : tags (container_table b) ≡ 0xA2 ∷ 0x83 ∷ 0x84 ∷ 0x85 ∷ 0x86 ∷ []
  container_tags = refl

  pub container_always : tags_always (container_table b) ≡ 0x83 ∷ 0x84 ∷ 0x85 ∷ 0x86 ∷ []
  container_always = refl

  pub container_sometimes : tags_sometimes (container_table b) ≡ 0xA2 ∷ []
  container_sometimes = refl
