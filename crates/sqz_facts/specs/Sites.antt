-- What lies at an address.
use Rattle.std.specs.Prelude.{◌≡◌, ◌≢◌, ◌⊎◌, ℕ, ◌+◌, ◌-◌, ◌*◌, ◌/◌, ◌%◌, ◌<◌, ◌≤◌, ◌==◌, ◌&&◌, nat_le}
use Rattle.std.specs.Prelude.{if◌then◌else◌, length}
use Rattle.std.specs.List.{concat}
use Rattle.sqz_object.specs.Chunk.{before, fields}
use Rattle.sqz_image.specs.Objects.{Memory, object_count, object_at, chunk_words, header_index, address_of}
use Rattle.sqz_facts.specs.declared.sites.Site.{Site}
use Rattle.sqz_facts.specs.declared.sites.Site.TheVariants as site
use Rattle.sqz_facts.specs.FreeChunks.{IsFreeChunk}

-- the address is that of one of `count` bytes from another address on
abbrev pub IsWithin : ℕ → ℕ → ℕ → Type 0
IsWithin start count address = (start ≤ address) × (address < start + count)

-- the address of a data word
abbrev pub word_address : Memory → ℕ → ℕ
word_address memory word = memory.base + 4 * word

-- the address is that of a byte of the header words of an object
abbrev pub IsInHeader : Memory → ℕ → ℕ → Type 0
IsInHeader memory object address =
    IsWithin (word_address memory (object_at memory object).first) (4 * (before (chunk_words memory object) + 1)) address

-- the address is that of a byte of a field of an object
abbrev pub IsInField : Memory → ℕ → ℕ → ℕ → Type 0
IsInField memory object field address =
    IsWithin (word_address memory (header_index (object_at memory object) + 1 + field)) 4 address

-- this lies at the address. At most one of these facts holds (`laws::one_site`)
abbrev pub IsSite : Memory → ℕ → Site → Type 0
IsSite memory address (site.Object object) = (object < object_count memory) × (address ≡ address_of memory object)
IsSite memory address (site.HeaderWord object) =
    (object < object_count memory) × IsInHeader memory object address × (address ≢ address_of memory object)
IsSite memory address (site.Field object field) =
    (object < object_count memory) × (field < length (fields (chunk_words memory object)))
    × IsInField memory object field address
IsSite memory address (site.FreeChunk start bytes) = IsFreeChunk memory start bytes × IsWithin start bytes address
IsSite memory address site.Outside =
    (address < memory.base) ⊎ (word_address memory (length (concat memory.chunks)) ≤ address)

-- what lies at a byte of the chunk of an object, by the number of header words before its base
-- header
abbrev pub object_site : ℕ → ℕ → ℕ → Site
object_site object before byte =
    if byte / 4 == before && byte % 4 == 0 then site.Object object
    else (if nat_le (byte / 4) before then site.HeaderWord object
    else site.Field object (byte / 4 - before - 1))
