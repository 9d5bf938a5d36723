-- Rows, worked by hand.
use Rattle.std.specs.Prelude.{◌≡◌, refl, Some, None, true, false, [], ◌∷◌, ◌++◌, codes, decimal}
use Rattle.pmb_beagle.specs.Columns.{heading_of}
use Rattle.pmb_beagle.specs.Export.{OfCapture, OfTransaction, has_length, index_of, says_of}
use Rattle.pmb_beagle.specs.Time.{time_of}
use Rattle.pmb_beagle.specs.declared.columns.Columns.{Columns}
use Rattle.pmb_csv.specs.Fields.{record_of}

abbrev columns : Columns
columns = record {
  count = 8;
  index = 0;
  time = Some 1;
  length = Some 2;
  error = Some 3;
  marks = 4;
  address = 5;
  sort = 6;
  bytes = 7;
}

pub a_heading : heading_of (codes "# Index,m:s.ms.us,Len,Err,S/P,Addr,Record,Data") ≡ Some columns
a_heading = refl

pub a_write : says_of columns (record_of (codes "1,0:01.234.567,2 B,,SP,58,Write Transaction,21 f8*"))
    ≡ Some (OfTransaction (record {
      reads = false;
      marks = record { has_start = true; has_stop = true };
      address = record { follows_start = false; byte = 0x58; is_acknowledged = true };
      bytes = record { follows_start = false; byte = 0x21; is_acknowledged = true }
          ∷ record { follows_start = false; byte = 0xf8; is_acknowledged = false } ∷ [];
    }))
a_write = refl

pub a_stop : says_of columns (record_of (codes "2,0:01.234.567,,,,,Capture stopped,")) ≡ Some OfCapture
a_stop = refl

pub not_a_byte : says_of columns (record_of (codes "1,,1 B,,SP,58,Write Transaction,2")) ≡ None
not_a_byte = refl

pub a_number : index_of columns (record_of (codes "1,,1 B,,SP,58,Write Transaction,21")) ≡ Some 1
a_number = refl

pub too_few_fields : index_of columns (record_of (codes "1,,1 B,,SP,58,Write Transaction")) ≡ None
too_few_fields = refl

pub a_length : has_length (Some (codes "4 B")) 4 ≡ true
a_length = refl

pub a_time : time_of (codes "2:05.000.001") ≡ decimal 125 ++ codes ".000001 s"
a_time = refl

pub no_time : time_of (codes "0:1.000.001") ≡ []
no_time = refl
