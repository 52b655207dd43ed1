-- What a list does, from its bytes alone, and what each call of a walk hands out: one definition for both lists.
use Rattle.std.specs.Prelude.{ℕ, zero, suc, List, Bool, true, false, length, leb, Some, None, Ok, Err}
use Rattle.std.specs.Borrow.{Bor}
use Rattle.std.specs.declared.option.Option.{Option}
use Rattle.std.specs.declared.result.Result.{Result as Answer}
use Rattle.section_bytes.specs.Read.{Result, gives, refused, got, Read, pick}
use Rattle.section_bytes.specs.Error.{refusal}
use Rattle.section_bytes.specs.Reader.{is_size}
use Rattle.section_bytes.specs.declared.common.DebugAddrBase.{DebugAddrBase}
use Rattle.section_bytes.specs.declared.common.DebugAddrIndex.{DebugAddrIndex}
use Rattle.section_bytes.specs.declared.common.Encoding.{Encoding}
use Rattle.section_bytes.specs.declared.endianity.RunTimeEndian.{RunTimeEndian}
use Rattle.section_bytes.specs.declared.error.Error.{Error}
use Rattle.section_bytes.specs.declared.error.Error.TheVariants.{UnsupportedAddressSize}
use Rattle.tables.specs.Next.{Next, ends, hands}
use Rattle.entries.specs.Forms.{Raw, stop, entry}
use Rattle.entries.specs.Numbers.{Coding, dwarf, tabled, numbers_of}
use Rattle.entries.specs.Listed.{EntryIn, entry_in, read_in}
use Rattle.entries.specs.Padded.{Noted, noted_as, padded_in}
use Rattle.entries.specs.declared.Noted as code
use Rattle.entries.specs.declared.Expression.{Expression}
use Rattle.entries.specs.declared.RawRngListEntry.{RawRngListEntry}
use Rattle.entries.specs.declared.RawLocListEntry.{RawLocListEntry}
use Rattle.lists.specs.Open.{moved_to, read_to, rebased}
use Rattle.lists.specs.Convert.{Turn, range, rebase, skip, convert, table_at, bounds, expression_of}
use Rattle.lists.specs.declared.Unit.{Unit as DwarfUnit}
use Rattle.lists.specs.declared.Walk.{Walk}
use Rattle.lists.specs.declared.Range.{Range}
use Rattle.lists.specs.declared.LocationListEntry.{LocationListEntry}

-- a list's entries: how one is read at a place, its bounds, and what else it carries
pub record Listing : Type 1 where
  pub Entry : Type 0
  pub Carried : Type 0
  pub read : ℕ → Read (Raw Entry)
  pub bounds_of : Entry → RawRngListEntry
  pub carried : Entry → Carried

-- both lists as one, by whether the list holds locations, and then how its entries are coded
abbrev pub CarriedIn : Bool → Type 0
CarriedIn true = Expression
CarriedIn false = Unit

abbrev pub bounds_in : (l : Bool) → EntryIn l → RawRngListEntry
bounds_in true e = bounds e
bounds_in false e = e

abbrev pub carried_in : (l : Bool) → EntryIn l → CarriedIn l
carried_in true e = expression_of e
carried_in false e = tt

abbrev pub listed : Bool → Coding → Encoding → RunTimeEndian → List ℕ → Listing
listed l coding encoding endian s =
    record { Entry = EntryIn l; Carried = CarriedIn l; read = read_in l coding encoding endian s; bounds_of = bounds_in l; carried = carried_in l }

abbrev pub ranges : Encoding → RunTimeEndian → List ℕ → Listing
ranges encoding endian s = listed false (dwarf false) encoding endian s

-- with the kind numbers of a table
abbrev pub ranges_by : List ℕ → Encoding → RunTimeEndian → List ℕ → Listing
ranges_by kinds encoding endian s = listed false (tabled kinds) encoding endian s

abbrev pub locations : Bool → Encoding → RunTimeEndian → List ℕ → Listing
locations split encoding endian s = listed true (dwarf split) encoding endian s

-- a range with what it carries
pub data Item (D : Type 0) : Type 0 where
  item : ℕ → ℕ → D → Item D

-- what a list does: it hands out an item or a refusal, with the walk then, and goes on; or it is over
pub data Trace (D : Type 0) : Type 0 where
  over : Walk → Trace D
  handed : Result (Item D) → Walk → Trace D → Trace D

-- what an entry comes to, by the walk behind it, from which the list goes on; a failed lookup is handed out in an item's place
abbrev pub on_turn : {D : Type 0} → Result Turn → D → Walk → (Walk → Trace D) → Trace D
on_turn (gives (range b e)) d w go = handed (gives (item b e d)) w (go w)
on_turn (gives (rebase b)) d w go = go (rebased b w)
on_turn (gives skip) d w go = go w
on_turn (refused n vs) d w go = handed (refused n vs) w (go w)

-- a raw refusal and the end mark empty the walk: its place is then the section's length. The end mark was read, what is refused was not
abbrev pub on_read : (l : Listing) → (DebugAddrIndex → Result ℕ) → ℕ → ℕ → Walk → Read (Raw l.Entry) → (Walk → Trace l.Carried) → Trace l.Carried
on_read l table size len w (gives (got (entry e) c)) go = on_turn (convert table size w.base_address (l.bounds_of e)) (l.carried e) (read_to c w) go
on_read l table size len w (gives (got stop c)) go = over (read_to len w)
on_read l table size len w (refused n vs) go = handed (refused n vs) (moved_to len w) (over (moved_to len w))

-- from a walk on, at most n entries: each takes a byte at least, so as many as there are bytes are enough
unfoldable pub trace_from : (l : Listing) → (DebugAddrIndex → Result ℕ) → ℕ → ℕ → ℕ → Walk → Trace l.Carried
trace_from l table size len zero w = over w
trace_from l table size len (suc n) w = pick (leb len w.at) (over w) (on_read l table size len w (l.read w.at) (trace_from l table size len n))

unfoldable pub trace : (l : Listing) → (DebugAddrIndex → Result ℕ) → ℕ → ℕ → Walk → Trace l.Carried
trace l table size len w = trace_from l table size len len w

-- a call hands out what the list does first
abbrev pub first : {D : Type 0} → Trace D → Next (Item D) Walk
first (over w) = ends w
first (handed r w t) = hands r w

-- other sizes are refused before all else, and the walk is emptied
unfoldable pub next : (l : Listing) → (DebugAddrIndex → Result ℕ) → ℕ → ℕ → Walk → Next (Item l.Carried) Walk
next l table size len w =
    pick (is_size size) (first (trace l table size len w)) (hands (refusal (UnsupportedAddressSize size)) (moved_to len w))

-- the raw entry of a call
abbrev pub on_raw : {E : Type 0} → ℕ → Walk → Read (Raw E) → Next E Walk
on_raw len w (gives (got (entry e) c)) = hands (gives e) (read_to c w)
on_raw len w (gives (got stop c)) = ends (read_to len w)
on_raw len w (refused n vs) = hands (refused n vs) (moved_to len w)

unfoldable pub next_raw : (l : Listing) → ℕ → ℕ → Walk → Next l.Entry Walk
next_raw l size len w =
    pick (is_size size)
    (pick (leb len w.at) (ends w) (on_raw len w (l.read w.at)))
    (hands (refusal (UnsupportedAddressSize size)) (moved_to len w))

-- a range list's coding, by a table that there may be
abbrev pub coding_by : Option (Bor (List ℕ)) → Coding
coding_by kinds = record { split = false; number = numbers_of kinds }

-- what a raw entry comes to under a walk: an item or a refusal, or nothing; and the walk then
pub data Outcome (D : Type 0) : Type 0 where
  comes : Result (Item D) → Walk → Outcome D
  nothing : Walk → Outcome D

abbrev pub outcome : {D : Type 0} → Walk → D → Result Turn → Outcome D
outcome w d (gives (range b e)) = comes (gives (item b e d)) w
outcome w d (gives (rebase b)) = nothing (rebased b w)
outcome w d (gives skip) = nothing w
outcome w d (refused n vs) = comes (refused n vs) w

-- bounds, with what they carry
abbrev pub converted : {D : Type 0} → (DebugAddrIndex → Result ℕ) → ℕ → Walk → D → RawRngListEntry → Outcome D
converted table size w d b =
    pick (is_size size) (outcome w d (convert table size w.base_address b)) (comes (refusal (UnsupportedAddressSize size)) w)

unfoldable pub convert_raw : (l : Listing) → (DebugAddrIndex → Result ℕ) → ℕ → Walk → l.Entry → Outcome l.Carried
convert_raw l table size w e = converted table size w (l.carried e) (l.bounds_of e)

-- both lists' calls, from the section, the address table, its base and the walk
abbrev pub next_of : (l : Bool) → Coding → Encoding → RunTimeEndian → List ℕ → List ℕ → DebugAddrBase → Walk → Next (Item (CarriedIn l)) Walk
next_of l coding encoding endian s table tableBase w =
    next (listed l coding encoding endian s) (table_at endian encoding tableBase table) encoding.address_size (length s) w

abbrev pub next_in_unit : (l : Bool) → Coding → List ℕ → DwarfUnit → Walk → Next (Item (CarriedIn l)) Walk
next_in_unit l coding s u w = next_of l coding u.encoding u.endian s u.debug_addr.now u.debug_addr_base w

abbrev pub next_raw_of : (l : Bool) → Coding → Encoding → RunTimeEndian → List ℕ → Walk → Next (EntryIn l) Walk
next_raw_of l coding encoding endian s w = next_raw (listed l coding encoding endian s) encoding.address_size (length s) w

-- the raw call gives with an entry whether some LEB128 number of it is padded; the end and a refusal give no such thing
abbrev pub noted : {E : Type 0} → Bool → Next E Walk → Next (Noted E) Walk
noted p (hands (gives e) w) = hands (gives (record { entry = e; padded = p })) w
noted p (hands (refused n vs) w) = hands (refused n vs) w
noted p (ends w) = ends w

abbrev pub noted_of : (l : Bool) → Coding → Encoding → RunTimeEndian → List ℕ → Walk → Next (Noted (EntryIn l)) Walk
noted_of l coding encoding endian s w = noted (padded_in l coding encoding endian s w.at) (next_raw_of l coding encoding endian s w)

-- each list's calls
abbrev pub next_range : Encoding → RunTimeEndian → List ℕ → List ℕ → DebugAddrBase → Walk → Next (Item Unit) Walk
next_range encoding endian s table tableBase w = next_of false (dwarf false) encoding endian s table tableBase w

abbrev pub next_raw_range : Encoding → RunTimeEndian → List ℕ → Walk → Next RawRngListEntry Walk
next_raw_range encoding endian s w = next_raw_of false (dwarf false) encoding endian s w

abbrev pub noted_range : Encoding → RunTimeEndian → List ℕ → Walk → Next (Noted RawRngListEntry) Walk
noted_range encoding endian s w = noted_of false (dwarf false) encoding endian s w

-- those of a range list with the kind numbers of a table
abbrev pub next_range_by : List ℕ → Encoding → RunTimeEndian → List ℕ → List ℕ → DebugAddrBase → Walk → Next (Item Unit) Walk
next_range_by kinds encoding endian s table tableBase w = next_of false (tabled kinds) encoding endian s table tableBase w

abbrev pub noted_range_by : List ℕ → Encoding → RunTimeEndian → List ℕ → Walk → Next (Noted RawRngListEntry) Walk
noted_range_by kinds encoding endian s w = noted_of false (tabled kinds) encoding endian s w

abbrev pub converted_range : Encoding → RunTimeEndian → List ℕ → DebugAddrBase → Walk → RawRngListEntry → Outcome Unit
converted_range encoding endian table tableBase w e = convert_raw (ranges encoding endian table) (table_at endian encoding tableBase table) encoding.address_size w e

abbrev pub next_location : Bool → Encoding → RunTimeEndian → List ℕ → List ℕ → DebugAddrBase → Walk → Next (Item Expression) Walk
next_location split encoding endian s table tableBase w = next_of true (dwarf split) encoding endian s table tableBase w

abbrev pub next_raw_location : Bool → Encoding → RunTimeEndian → List ℕ → Walk → Next RawLocListEntry Walk
next_raw_location split encoding endian s w = next_raw_of true (dwarf split) encoding endian s w

abbrev pub noted_location : Bool → Encoding → RunTimeEndian → List ℕ → Walk → Next (Noted RawLocListEntry) Walk
noted_location split encoding endian s w = noted_of true (dwarf split) encoding endian s w

abbrev pub converted_location : Encoding → RunTimeEndian → List ℕ → DebugAddrBase → Walk → RawLocListEntry → Outcome Expression
converted_location encoding endian table tableBase w e = convert_raw (locations false encoding endian table) (table_at endian encoding tableBase table) encoding.address_size w e

-- the code's answers, with the walk that it leaves, told as the definitions'
abbrev pub told_raw : {E : Type 0} → Answer (Option (code.Noted E)) Error → Walk → Next (Noted E) Walk
told_raw (Ok (Some x)) w = hands (gives (noted_as x)) w
told_raw (Ok None) w = ends w
told_raw (Err e) w = hands (refusal e) w

abbrev pub told_converted_range : Answer (Option Range) Error → Walk → Outcome Unit
told_converted_range (Ok (Some r)) w = comes (gives (item r.begin r.end tt)) w
told_converted_range (Ok None) w = nothing w
told_converted_range (Err e) w = comes (refusal e) w

abbrev pub told_next_range : Answer (Option Range) Error → Walk → Next (Item Unit) Walk
told_next_range (Ok (Some r)) w = hands (gives (item r.begin r.end tt)) w
told_next_range (Ok None) w = ends w
told_next_range (Err e) w = hands (refusal e) w

-- a location's answer without what it carries
abbrev pub range_only : Answer (Option LocationListEntry) Error → Answer (Option Range) Error
range_only (Ok (Some x)) = Ok (Some x.range)
range_only (Ok None) = Ok None
range_only (Err e) = Err e

abbrev pub told_converted_location : Answer (Option LocationListEntry) Error → Walk → Outcome Expression
told_converted_location (Ok (Some x)) w = comes (gives (item x.range.begin x.range.end x.«data»)) w
told_converted_location (Ok None) w = nothing w
told_converted_location (Err e) w = comes (refusal e) w

abbrev pub told_next_location : Answer (Option LocationListEntry) Error → Walk → Next (Item Expression) Walk
told_next_location (Ok (Some x)) w = hands (gives (item x.range.begin x.range.end x.«data»)) w
told_next_location (Ok None) w = ends w
told_next_location (Err e) w = hands (refusal e) w

-- an answer of the code for both lists, told as its list's
abbrev pub data_in : (l : Bool) → Expression → CarriedIn l
data_in true x = x
data_in false x = tt

abbrev pub item_in : (l : Bool) → Item Expression → Item (CarriedIn l)
item_in l (item b e x) = item b e (data_in l x)

abbrev pub next_in : (l : Bool) → Next (Item Expression) Walk → Next (Item (CarriedIn l)) Walk
next_in l (hands (gives i) w) = hands (gives (item_in l i)) w
next_in l (hands (refused n vs) w) = hands (refused n vs) w
next_in l (ends w) = ends w

abbrev pub noted_in : (l : Bool) → Next (Noted RawLocListEntry) Walk → Next (Noted (EntryIn l)) Walk
noted_in l (hands (gives x) w) = hands (gives (record { entry = entry_in l x.entry; padded = x.padded })) w
noted_in l (hands (refused n vs) w) = hands (refused n vs) w
noted_in l (ends w) = ends w

abbrev pub outcome_in : (l : Bool) → Outcome Expression → Outcome (CarriedIn l)
outcome_in l (comes (gives i) w) = comes (gives (item_in l i)) w
outcome_in l (comes (refused n vs) w) = comes (refused n vs) w
outcome_in l (nothing w) = nothing w
