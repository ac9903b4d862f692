-- Every text that a sheet finishes with has its marks paired, by bytes, where what goes in has none.
use mathlib.Core.Path.{sym, subst}
use Rattle.records.specs.Valid.{All}
use Rattle.layout.proofs.Theorems.{arguments_sound}
use Rattle.order.proofs.Accepted.{accepted_read}
use Rattle.theorems.proofs.Every.{all_both}
use Rattle.requests.specs.Image.{Request}
use Rattle.requests.proofs.Exact.{RequestOk, requests_ok}
use Rattle.sheet_theorems.proofs.Parts.{Finishes, finishes}
use Rattle.sheet_theorems.proofs.Fine.{FineRequest, sheet_keeps, sheet_text_taken}
use Rattle.nesting.specs.Marks.{UnmarkedBytes, PairedBytes}
use Rattle.nesting.specs.Claims.{InLeaf, InArguments, EverySheet}
use Rattle.nesting.proofs.Balanced.{Balanced, balanced_paired}
use Rattle.nesting.proofs.Formattings.{balanced_keeps, values_balanced}

request_balanced : (r : Request) → RequestOk r → InArguments UnmarkedBytes r.image → FineRequest Balanced r
request_balanced r ok u l given =
    let w = accepted_read r.image l given in
    values_balanced l (arguments_sound ok.octets w.1).0 (u l w.0 w.1)

pub sheets_nest : EverySheet UnmarkedBytes PairedBytes
sheets_nest s os us image oi ui b t e k u w h =
    let f : Finishes s image b = finishes s image b t e k u w h in
    let given : All (FineRequest Balanced) f.requests =
    all_both RequestOk (λ (r : Request). InArguments UnmarkedBytes r.image) (FineRequest Balanced) request_balanced f.requests (requests_ok image f.requests oi f.read) (ui f.requests f.requests_end f.read) in
    let balanced : Balanced f.machine.written = (sheet_keeps Balanced (InLeaf UnmarkedBytes) balanced_keeps s os image b f (us f.store f.store_end f.stored) given).text in
    subst PairedBytes (sym (sheet_text_taken s image b t e k u w f h)) (balanced_paired _ balanced)
