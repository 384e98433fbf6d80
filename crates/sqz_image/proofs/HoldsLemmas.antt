-- A file holds one image at most, and if it holds one, it is not rejected as unreadable.
-- Serves `Uniqueness` of `sqz_tool`, and `sqz_damage`.
use Rattle.std.proofs.Common.{◌≡◌, ℕ, List, Some, None, is_some, sym, ap, subst, ◌∙◌, inl, inr}
use Rattle.std.proofs.lemmas.Bool.{false≢true}
use Rattle.std.proofs.lemmas.Option.{none-some, same_Some}
use Rattle.sqz_object.specs.declared.order.Order.{Order}
use Rattle.sqz_object.proofs.PartitionLemmas.{IsStuck-no_partition}
use Rattle.sqz_image.specs.declared.fault.Fault.{Fault}
use Rattle.sqz_image.specs.File.{image_bytes, header_of, base_address, special_address, data_of}
use Rattle.sqz_image.specs.Objects.{SavedImage, find}
use Rattle.sqz_image.specs.Refusals.{file_fault, HasChunks, Holds, HasNoPartition, HasUnreadableChunk, LacksSpecialObjects, IsUnreadable}
use Rattle.sqz_image.proofs.CutLemmas.{cut-partition}
use Rattle.sqz_image.specs.Memory.{cut}

-- an image of these parts
abbrev image_of : List ℕ → List ℕ → Order → ℕ → ℕ → List (List ℕ) → SavedImage
image_of f h o b s x = record { prefix = f; header = h; memory = record { order = o; base = b; special = s; chunks = x } }

same_image : {e f g h : List ℕ} {o p : Order} {a b c d : ℕ} {x y : List (List ℕ)}
    → e ≡ f → g ≡ h → o ≡ p → a ≡ b → c ≡ d → x ≡ y → image_of e g o a c x ≡ image_of f h p b d y
same_image q r s t u v = cc

pub HasChunks-unique : (file : List ℕ) (one other : SavedImage) → HasChunks file one → HasChunks file other → one ≡ other
HasChunks-unique file one other p q =
    let bytes = image_bytes file in
    let order : one.memory.order ≡ other.memory.order = same_Some _ _ (sym p.order ∙ q.order) in
    let header : one.header ≡ other.header = p.header ∙ ap (λ (o : Order). header_of o bytes) order ∙ sym q.header in
    same_image (p.prefix ∙ sym q.prefix) header order
    (p.base ∙ ap base_address header ∙ sym q.base)
    (p.special ∙ ap special_address header ∙ sym q.special)
    (sym (cut-partition (data_of one.memory.order bytes) one.memory.chunks p.chunks)
    ∙ ap (λ (o : Order). cut (data_of o bytes)) order
    ∙ cut-partition (data_of other.memory.order bytes) other.memory.chunks q.chunks)

pub Holds-unique : (file : List ℕ) (one other : SavedImage) → Holds file one → Holds file other → one ≡ other
Holds-unique file one other p q = HasChunks-unique file one other p.parts q.parts

module _ (file : List ℕ) where
  -- ---- a file that holds an image is not rejected as unreadable

  -- its header is sound
  pub no_header_fault : (fault : Fault) → file_fault file ≡ None → file_fault file ≡ Some fault → ⊥
  no_header_fault fault sound refused = none-some fault (sym sound ∙ refused)

  -- each chunk can be read
  pub HasChunks-readable : (image : SavedImage) (fault : Fault) → HasChunks file image → HasUnreadableChunk file fault → ⊥
  HasChunks-readable image fault chunks unreadable =
      let same : unreadable.order ≡ image.memory.order = same_Some _ _ (sym unreadable.in_order ∙ chunks.order) in
      let bytes = image_bytes file in
      let missing = subst (λ (o : Order). HasNoPartition (data_of o bytes) fault) same unreadable.unreadable in
      IsStuck-no_partition (data_of image.memory.order bytes) missing.word missing.reason image.memory.chunks chunks.chunks missing.stuck

  -- its special objects array is there
  has_special : (image : SavedImage) (fault : Fault) → Holds file image → LacksSpecialObjects file fault → ⊥
  has_special image fault holds lacks =
      let same : lacks.image ≡ image = HasChunks-unique file lacks.image image lacks.parts holds.parts in
      let missing : find image.memory image.memory.special ≡ None =
      ap (λ (i : SavedImage). find i.memory i.memory.special) (sym same) ∙ lacks.missing in
      false≢true (sym (ap is_some missing) ∙ holds.special)

  -- an image that it holds is not rejected before its objects are examined
  pub Holds-readable : (image : SavedImage) (fault : Fault) → Holds file image → IsUnreadable file fault → ⊥
  Holds-readable image fault holds (inl refused) = no_header_fault fault holds.parts.sound refused
  Holds-readable image fault holds (inr (inl unreadable)) = HasChunks-readable image fault holds.parts unreadable
  Holds-readable image fault holds (inr (inr lacks)) = has_special image fault holds lacks
