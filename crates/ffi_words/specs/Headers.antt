-- Headers and address tables. An encoding that is told has the byte order of the call.
use Rattle.std.specs.Prelude.{ℕ, Bool, List, [], ◌∷◌, get_or}
use Rattle.section_bytes.specs.Read.{Result, gives, refused}
use Rattle.section_bytes.specs.declared.common.Encoding.{Encoding}
use Rattle.tables.specs.Addr.{headers_at}
use Rattle.tables.specs.Lists.{Parsed, header_size}
use Rattle.tables.specs.Next.{Next, ends, hands}
use Rattle.tables.specs.declared.addr.AddrEntryIter.{AddrEntryIter}
use Rattle.tables.specs.declared.addr.AddrHeader.{AddrHeader}
use Rattle.tables.specs.declared.addr.AddrHeaderIter.{AddrHeaderIter}
use Rattle.ffi_words.specs.Common.{encoding_told, no_encoding, part, no_part, done, ended, refused_by, Left, left}
use Rattle.ffi_words.specs.Reads.{number_told, no_number}
use Rattle.ffi_words.specs.declared.common.YzDone.{YzDone}
use Rattle.ffi_words.specs.declared.common.YzEncoding.{YzEncoding}
use Rattle.ffi_words.specs.declared.common.YzPart.{YzPart}
use Rattle.ffi_words.specs.declared.headers.YzListsHeader.{YzListsHeader}
use Rattle.ffi_words.specs.declared.headers.YzTableHeader.{YzTableHeader}
use Rattle.ffi_words.specs.declared.reads.YzNumber.{YzNumber}

abbrev pub lists : YzDone → YzEncoding → ℕ → ℕ → YzPart → YzListsHeader
lists d encoding count size rest =
    record { done = d; encoding = encoding; offset_entry_count = count; header_size = size; rest = rest }

abbrev pub lists_told : Bool → Result Parsed → YzListsHeader
lists_told bigEndian (gives p) =
    lists done (encoding_told p.header.encoding bigEndian) p.header.offset_entry_count (header_size p.header.encoding)
    (part p.rest.offset p.rest.len)
lists_told bigEndian (refused n vs) = lists (refused_by n vs) no_encoding 0 0 no_part

abbrev pub table : YzDone → YzEncoding → ℕ → ℕ → YzPart → YzTableHeader
table d encoding offset len entries = record { done = d; encoding = encoding; offset = offset; length = len; entries = entries }

abbrev pub no_table : YzDone → YzTableHeader
no_table d = table d no_encoding 0 0 no_part

-- the headers of a section: the place of the next one in one word
abbrev pub headers_in : List ℕ → AddrHeaderIter
headers_in ws = headers_at (get_or ws 0 0)

abbrev pub headers_left : AddrHeaderIter → List ℕ
headers_left w = w.at ∷ []

abbrev pub table_next : Bool → Next AddrHeader AddrHeaderIter → Left YzTableHeader
table_next bigEndian (hands (gives h) w) =
    left
    (table done (encoding_told h.encoding bigEndian) h.offset.0 h.length (part h.entries.offset h.entries.len))
    (headers_left w)
table_next bigEndian (ends w) = left (no_table ended) (headers_left w)
table_next bigEndian (hands (refused n vs) w) = left (no_table (refused_by n vs)) (headers_left w)

-- the addresses of a table: what is left of them in two words, offset and length
abbrev pub entries_in : Encoding → List ℕ → AddrEntryIter
entries_in encoding ws = record { entries = record { offset = get_or ws 0 0; len = get_or ws 1 0 }; encoding = encoding }

abbrev pub entries_left : AddrEntryIter → List ℕ
entries_left w = w.entries.offset ∷ w.entries.len ∷ []

abbrev pub entry_next : Next ℕ AddrEntryIter → Left YzNumber
entry_next (hands (gives a) w) = left (number_told done a) (entries_left w)
entry_next (ends w) = left (no_number ended) (entries_left w)
entry_next (hands (refused n vs) w) = left (no_number (refused_by n vs)) (entries_left w)
